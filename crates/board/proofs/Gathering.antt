-- One pass over the rows gathers each processor's waiting rows in a word; the lowest set bit is the row to take.
use Prim.Native.Nat.{ℕ, ◌+◌, ◌*◌, ◌^◌, ◌%◌, ◌≤◌, ◌<◌}
use mathlib.Core.Path.{◌≡◌, refl, sym, ap, ◌∙◌, subst}
use mathlib.Core.Bool.{Bool, true, false, ◌&&◌, and-false}
use mathlib.Core.List.{List}
use native.Mathlib.Omega.{arith}
use native.Mathlib.Decide.{ℕ_discrete}
use borrow.Author.Tests.{lt-ltb, le-ltb, eq-eqb, ne_eqb}
use lib.Bits.{bit_or}
use lib.Count.{count_trailing_zeros}
use lib.ListN.{length, get_or, set, length-set, replicate, length-replicate, get_or-replicate}
use lib.Seq.{get_or-set_same, get_or-set_other}
use lib.Dec.{ltb, eqb}
use Rattle.std.specs.Prelude.{Option, Some, None}
use Rattle.laws.specs.ChoiceLaws.{pick_true, pick_false}
use Rattle.laws.specs.Words.{word, word_from}
use Rattle.laws.specs.WordLaws.{lowest_is_first, set_bit, clear_bit}
use Rattle.laws.specs.BitLaws.{word_same, word_past}
use Rattle.sheet.specs.Ranges.{most_processors, most_rows}
use Rattle.board.specs.declared.Job.{Job}
use Rattle.board.specs.declared.State.{State}
use Rattle.board.specs.States.{hand_at, processor_at, standing_at, is_waiting}
use Rattle.board.specs.Rules.{waits_on, first_waiting, takes, hand_taken}
use Rattle.board.specs.Parts.{row_or}
use Rattle.board.proofs.ShapeFacts.{OwnHand, Shaped, below_most}
use Rattle.board.proofs.Rows.{on_board}

module _ (s : State) where
  -- row i waits, and p is its processor as the code reads it: below 8 whatever the state
  unfoldable pub waits_below : ℕ → ℕ → Bool
  waits_below p i = is_waiting (standing_at s i) && eqb (processor_at s i % 8) p

  -- the rows below i are gathered
  pub record Gathered (masks : List ℕ) (i : ℕ) : Type 0 where
    pub long : length masks ≡ most_processors
    pub words : (p : ℕ) → p < most_processors → get_or masks p 0 ≡ word i (waits_below p)

  pub gathered_none : Gathered (replicate most_processors 0) 0
  unfolding word_from
  gathered_none = record { long = length-replicate {A = ℕ} most_processors 0; words = λ p l. get_or-replicate most_processors p 0 0 l }

  not_waiting : (p i : ℕ) → is_waiting (standing_at s i) ≡ false → waits_below p i ≡ false
  unfolding waits_below
  not_waiting p i e = ap (λ (b : Bool). b && eqb (processor_at s i % 8) p) e

  elsewhere : (p i : ℕ) → (p ≡ processor_at s i % 8 → ⊥) → waits_below p i ≡ false
  unfolding waits_below
  elsewhere p i n = rw (ne_eqb (processor_at s i % 8) p (λ e. n (sym e))) (and-false (is_waiting (standing_at s i)))

  waiting : (i : ℕ) → is_waiting (standing_at s i) ≡ true → waits_below (processor_at s i % 8) i ≡ true
  unfolding waits_below
  waiting i e = rw (e, eq-eqb (processor_at s i % 8) (processor_at s i % 8) refl)

  module _ (masks : List ℕ) (i : ℕ) (c : Gathered masks i) where
    pub gathered_skip : is_waiting (standing_at s i) ≡ false → Gathered masks (i + 1)
    gathered_skip e =
        record { long = c.long; words = λ p m. clear_bit (waits_below p) i (get_or masks p 0) (c.words p m) (not_waiting p i e) }

    pub gathered_more : i < most_rows → is_waiting (standing_at s i) ≡ true → Gathered (set masks (processor_at s i % 8) (bit_or (get_or masks (processor_at s i % 8) 0) ((1 * 2 ^ i) % 2 ^ 32))) (i + 1)
    gathered_more l e =
        record { long = length-set masks (processor_at s i % 8) _ ∙ c.long; words = λ p m. word_at p m (ℕ_discrete p (processor_at s i % 8)) }
      where
        word_at : (p : ℕ) → p < most_processors → Dec (p ≡ processor_at s i % 8) → get_or (set masks (processor_at s i % 8) (bit_or (get_or masks (processor_at s i % 8) 0) ((1 * 2 ^ i) % 2 ^ 32))) p 0 ≡ word (i + 1) (waits_below p)
        word_at p m (yes z) =
            subst (λ (x : ℕ). get_or (set masks (processor_at s i % 8) (bit_or (get_or masks (processor_at s i % 8) 0) ((1 * 2 ^ i) % 2 ^ 32))) x 0 ≡ word (i + 1) (waits_below x)) (sym z)
            (get_or-set_same masks (processor_at s i % 8) _ 0 (omega (arith, c.long, z))
            ∙ set_bit (waits_below (processor_at s i % 8)) i (get_or masks (processor_at s i % 8) 0) l (c.words (processor_at s i % 8) (omega (arith, z))) (waiting i e))
        word_at p m (no z) =
            get_or-set_other masks (processor_at s i % 8) p _ 0 z ∙ clear_bit (waits_below p) i (get_or masks p 0) (c.words p m) (elsewhere p i z)

  module _ (k : Shaped s) where
    -- of a state of the shape the rows below n are all that wait, each on its own processor
    pub gathered_all : (masks : List ℕ) (i : ℕ) → Gathered masks i → s.set.count ≤ i → i ≤ most_rows → (p : ℕ) → p < most_processors → get_or masks p 0 ≡ word most_rows (waits_on s p)
    unfolding waits_below waits_on
    gathered_all masks i c end most p l =
        c.words p l
        ∙ word_past i most_rows (waits_below p) most (λ j g m. not_waiting p j (ap (λ (x : Job). is_waiting x.standing) (k.past j (omega (arith, g)) m).1))
        ∙ word_same most_rows (waits_below p) (waits_on s p)
        (λ j m.
        let e : processor_at s j % 8 ≡ processor_at s j = omega (arith, on_board s k j m) in
        ap (λ (q : ℕ). is_waiting (standing_at s j) && eqb q p) e)

    -- the row that processor p has in hand after rule 1, or 32
    module _ (p : ℕ) (l : p < most_processors) (mask : ℕ) (m : mask ≡ word most_rows (waits_on s p)) where
      lowest : count_trailing_zeros most_rows mask ≡ first_waiting s p
      unfolding first_waiting
      lowest = ap (count_trailing_zeros most_rows) m ∙ lowest_is_first most_rows (waits_on s p)

      pub takes_row : (row : ℕ) → row ≡ row_or (hand_at s p) (count_trailing_zeros most_rows mask) → row < most_rows → hand_taken s p ≡ Some row
      unfolding hand_taken
      takes_row row e b = go (hand_at s p) (e ∙ ap (row_or (hand_at s p)) lowest)
        where
          go : (h : Option ℕ) → row ≡ row_or h (first_waiting s p) → takes h (first_waiting s p) ≡ Some row
          go None e = pick_true (ltb (first_waiting s p) most_rows) _ _ (lt-ltb (first_waiting s p) most_rows (omega (arith, e))) ∙ ap Some (sym e)
          go (Some j) e = ap Some (sym e)

      pub takes_none : (row : ℕ) → row ≡ row_or (hand_at s p) (count_trailing_zeros most_rows mask) → most_rows ≤ row → hand_taken s p ≡ None
      unfolding hand_taken
      takes_none row e b = go (hand_at s p) refl (e ∙ ap (row_or (hand_at s p)) lowest)
        where
          go : (h : Option ℕ) → hand_at s p ≡ h → row ≡ row_or h (first_waiting s p) → takes h (first_waiting s p) ≡ None
          go None a e = pick_false (ltb (first_waiting s p) most_rows) _ _ (le-ltb (first_waiting s p) most_rows (omega (arith, e)))
          go (Some j) a e = absurd (omega (arith, e, below_most s k j (subst (OwnHand s.set p) a (k.hand p l)).0))
