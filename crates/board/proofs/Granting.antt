-- One loop over n processors, highest rank first, gives the token. It may be with a processor from before, in whose job it stays: the
-- loop's `token` starts at that processor, or at n where none has it. A job in memory has the token exactly if `token` is n or its own
-- processor when its turn comes.
use Prim.Native.Nat.{ℕ, ◌+◌, ◌≤◌, ◌<◌}
use mathlib.Core.Path.{◌≡◌, refl, sym, ap, subst, ◌∙◌}
use mathlib.Core.Bool.{Bool, true, false, ◌&&◌, ◌||◌, or-false}
use native.Mathlib.Omega.{arith}
use native.Mathlib.Decide.{dec_lt, ℕ_discrete}
use lib.Dec.{ltb, eqb}
use borrow.Author.Tests.{lt-ltb, le-ltb, eq-eqb, ne_eqb}
use Rattle.laws.specs.Choice.{pick}
use Rattle.laws.specs.ChoiceLaws.{true_not_false}
use Rattle.laws.specs.Search.{first}
use Rattle.laws.specs.SearchLaws.{IsFirst, first_is}

-- `memory p` says that p's job is in memory after rule 1.
module _ (n : ℕ) (memory : ℕ → Bool) (from : ℕ) where
  abbrev highest : ℕ
  highest = first n memory

  -- Who has the token in this tick,
  abbrev pub granted : ℕ
  granted = pick (eqb from n) (first n memory) from

  -- and `token` before processor p's turn.
  abbrev pub token_before : ℕ → ℕ
  token_before p = pick (eqb from n) (pick (ltb (first n memory) p) (first n memory) n) from

-- The test in processor p's turn.
abbrev pub may_have : (n token p : ℕ) → Bool
may_have n token p = eqb token n || eqb token p

module _ (n : ℕ) (memory : ℕ → Bool) (from : ℕ) (most : from ≤ n) (fits : from < n → memory from ≡ true) where
  abbrev top : ℕ
  top = highest n memory from

  abbrev to : ℕ
  to = granted n memory from

  abbrev before : ℕ → ℕ
  before = token_before n memory from

  is_first : IsFirst memory 0 n top
  is_first = first_is n memory

  highest_by : (p : ℕ) → memory p ≡ true → top ≤ p
  highest_by p m = go (dec_lt p top)
    where
      go : Dec (p < top) → top ≤ p
      go (yes l) = true_not_false _ m (is_first.none p (omega arith) l)
      go (no l) = omega arith

  free_granted : from ≡ n → to ≡ top
  free_granted e = rw (eq-eqb from n e)

  held_granted : (from ≡ n → ⊥) → to ≡ from
  held_granted d = rw (ne_eqb from n d)

  before_past : (p : ℕ) → from ≡ n → top < p → before p ≡ top
  before_past p e f = rw (eq-eqb from n e, lt-ltb top p f)

  before_free : (p : ℕ) → from ≡ n → p ≤ top → before p ≡ n
  before_free p e f = rw (eq-eqb from n e, le-ltb top p f)

  before_held : (p : ℕ) → (from ≡ n → ⊥) → before p ≡ from
  before_held p d = rw (ne_eqb from n d)

  pub token_most : (p : ℕ) → p ≤ n → before p ≤ n
  token_most p l = go (ℕ_discrete from n) (dec_lt top p)
    where
      go : Dec (from ≡ n) → Dec (top < p) → before p ≤ n
      go (yes e) (yes f) = omega (arith, before_past p e f, f, l)
      go (yes e) (no f) = omega (arith, before_free p e (omega arith))
      go (no d) f = omega (arith, before_held p d, most)

  -- It starts where the token is,
  pub token_starts : from ≡ before 0
  token_starts = go (ℕ_discrete from n)
    where
      go : Dec (from ≡ n) → from ≡ before 0
      go (yes e) = e ∙ sym (before_free 0 e (omega arith))
      go (no d) = sym (before_held 0 d)

  -- the test says who has it,
  pub may_is : (p : ℕ) → p < n → memory p ≡ true → may_have n (before p) p ≡ eqb p to
  may_is p l m = go (ℕ_discrete from n) (dec_lt top p) (ℕ_discrete from p)
    where
      go : Dec (from ≡ n) → Dec (top < p) → Dec (from ≡ p) → may_have n (before p) p ≡ eqb p to
      go (yes e) (yes f) d =
          rw (eq-eqb from n e, lt-ltb top p f, ne_eqb top n (λ z. omega (arith, z)), ne_eqb top p (λ z. omega (arith, z)), ne_eqb p top (λ z. omega (arith, z)))
      go (yes e) (no f) d =
          let q : p ≡ top = omega (arith, highest_by p m) in
          rw (eq-eqb from n e, le-ltb top p (omega arith), eq-eqb n n refl, eq-eqb p top q)
      go (no e) f (yes d) = rw (ne_eqb from n e, ne_eqb from n e, eq-eqb from p d, eq-eqb p from (sym d))
      go (no e) f (no d) = rw (ne_eqb from n e, ne_eqb from n e, ne_eqb from p d, ne_eqb p from (λ z. d (sym z)))

  -- which where nobody had it from before is whether nobody has it yet,
  pub nobody_yet : from ≡ n → (p : ℕ) → p < n → may_have n (before p) p ≡ eqb (before p) n
  nobody_yet e p l = go (dec_lt top p)
    where
      go : Dec (top < p) → may_have n (before p) p ≡ eqb (before p) n
      go (yes f) = rw (before_past p e f, ne_eqb top p (λ z. omega (arith, z))) (or-false (eqb top n))
      go (no f) = rw (before_free p e (omega arith), eq-eqb n n refl)

  -- a turn sets it where the processor has it,
  pub token_next : (p : ℕ) → p < n → pick (memory p && may_have n (before p) p) p (before p) ≡ before (p + 1)
  token_next p l = go (memory p) refl
    where
      rest : memory p ≡ false → Dec (from ≡ n) → Dec (top < p) → before p ≡ before (p + 1)
      rest m (no d) f = before_held p d ∙ sym (before_held (p + 1) d)
      rest m (yes e) (yes f) = before_past p e f ∙ sym (before_past (p + 1) e (omega arith))
      rest m (yes e) (no f) =
          let other : (top ≡ p → ⊥) = λ q. true_not_false _ (subst (λ (x : ℕ). memory x ≡ true) q (is_first.passes (omega (arith, q, l)))) m in
          before_free p e (omega arith) ∙ sym (before_free (p + 1) e (omega (arith, other)))

      has : memory p ≡ true → Dec (p ≡ to) → Dec (from ≡ n) → pick (eqb p to) p (before p) ≡ before (p + 1)
      has m (yes q) (yes e) = rw (eq-eqb p to q) (q ∙ free_granted e ∙ sym (before_past (p + 1) e (omega (arith, q, free_granted e))))
      has m (yes q) (no d) = rw (eq-eqb p to q) (q ∙ held_granted d ∙ sym (before_held (p + 1) d))
      has m (no q) (yes e) =
          let f : top < p = omega (arith, highest_by p m, q, free_granted e) in
          rw (ne_eqb p to q) (before_past p e f ∙ sym (before_past (p + 1) e (omega arith)))
      has m (no q) (no d) = rw (ne_eqb p to q) (before_held p d ∙ sym (before_held (p + 1) d))

      go : (b : Bool) → memory p ≡ b → pick (b && may_have n (before p) p) p (before p) ≡ before (p + 1)
      go false m = rest m (ℕ_discrete from n) (dec_lt top p)
      go true m = ap (λ (b : Bool). pick b p (before p)) (may_is p l m) ∙ has m (ℕ_discrete p to) (ℕ_discrete from n)

  -- and after all turns it is with whom it was given to.
  pub token_ends : before n ≡ to
  token_ends = go (ℕ_discrete from n) (dec_lt top n)
    where
      go : Dec (from ≡ n) → Dec (top < n) → before n ≡ to
      go (yes e) (yes f) = before_past n e f ∙ sym (free_granted e)
      go (yes e) (no f) = before_free n e (omega arith) ∙ omega (arith, is_first.within) ∙ sym (free_granted e)
      go (no d) f = before_held n d ∙ sym (held_granted d)
