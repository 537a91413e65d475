-- Laws of a text's lines, as the code that takes them off one by one needs them.
use Prim.Native.Nat.{ℕ, suc, ◌+◌, ◌≤◌, ◌<◌}
use mathlib.Core.Path.{◌≡◌, refl, sym, ap, ◌∙◌}
use mathlib.Core.Bool.{Bool, true, false}
use mathlib.Core.List.{List, [], ◌∷◌}
use native.Mathlib.Omega.{arith}
use native.Mathlib.Numerals.{add-one}
use lib.ListN.{length, drop, length-drop, drop_of_length-le}
use Rattle.std.proofs.Common.{Some, None}
use Rattle.sheet_text.specs.Words.{is_mark, bytes_before, grown, lines_of, content_of, has_word}
use Rattle.sheet_text.specs.Meaning.{line_at, worded}
use Rattle.sheet_text.specs.Parts.{first_line, after_line, lines_left, Cuts, Finds}
use Rattle.sheet_text.specs.declared.Mark.TheVariants.{Newline}
use Rattle.sheet_text.specs.declared.lines.Line.{Line}
use Rattle.sheet_text.specs.declared.lines.Lines.{Lines}

-- A text that is not empty is its first line and the lines after it.
abbrev Begun : ℕ → List ℕ → Type 0
Begun b r = grown b (lines_of r) ≡ (b ∷ bytes_before Newline r) ∷ lines_of (drop (length (bytes_before Newline r) + 1) r)

first_byte : (b : ℕ) (r : List ℕ) → Begun b r → lines_of (b ∷ r) ≡ first_line (b ∷ r) ∷ lines_of (after_line (b ∷ r))
unfolding lines_of bytes_before
first_byte b r e = go (is_mark Newline b)
  where
    go : (x : Bool) → (let y : List ℕ = elim x [ true ↦ [] | false ↦ b ∷ bytes_before Newline r ] in elim x [ true ↦ [] ∷ lines_of r | false ↦ grown b (lines_of r) ] ≡ y ∷ lines_of (drop (length y + 1) (b ∷ r)))
    go true = refl
    go false =
        let n : suc (length (bytes_before Newline r) + 1) ≡ suc (length (bytes_before Newline r)) + 1 = omega arith in
        e ∙ ap (λ (m : ℕ). (b ∷ bytes_before Newline r) ∷ lines_of (drop m (b ∷ r))) n

lines_first : (b : ℕ) (text : List ℕ) → lines_of (b ∷ text) ≡ first_line (b ∷ text) ∷ lines_of (after_line (b ∷ text))
unfolding lines_of bytes_before
lines_first b [] = first_byte b [] refl
lines_first b (d ∷ r) = first_byte b (d ∷ r) (ap (grown b) (lines_first d r))

pub lines_cons : (text : List ℕ) → 1 ≤ length text → lines_of text ≡ first_line text ∷ lines_of (after_line text)
lines_cons [] h = absurd (omega (arith, h))
lines_cons (b ∷ text) h = lines_first b text

pub lines_end : (text : List ℕ) (i : ℕ) → length text ≤ i → lines_of (drop i text) ≡ []
unfolding lines_of
lines_end text i h = ap lines_of (drop_of_length-le text {i = i} h)

worded_hit : (n : ℕ) (line : List ℕ) (lines : List (List ℕ)) → has_word (content_of line) ≡ true → worded n (line ∷ lines) ≡ line_at n (content_of line) ∷ worded (suc n) lines
unfolding worded
worded_hit n line lines h = rw (h, worded)

worded_skip : (n : ℕ) (line : List ℕ) (lines : List (List ℕ)) → has_word (content_of line) ≡ false → worded n (line ∷ lines) ≡ worded (suc n) lines
unfolding worded
worded_skip n line lines h = rw (h, worded)

worded_none : (n : ℕ) → worded n [] ≡ []
unfolding worded
worded_none n = refl

-- Lines are taken off until one has words.
pub record Looking (before now : Lines) : Type 0 where
  pub lines : lines_left before ≡ lines_left now
  pub total : before.number + length (lines_of before.left.now) ≡ now.number + length (lines_of now.left.now)
  pub forth : length now.left.now ≤ length before.left.now

module _ {before now : Lines} (l : Looking before now) where
  module _ (line : Line) (after : Lines) (c : Cuts now (Some line) after) where
    split : lines_of now.left.now ≡ first_line now.left.now ∷ lines_of after.left.now
    split =
        lines_cons now.left.now (omega (arith, c.0)) ∙ ap (λ (x : List ℕ). first_line now.left.now ∷ lines_of x) (sym c.4)

    pub shorter : length after.left.now < length now.left.now
    shorter = omega (arith, c.0, ap length c.4, length-drop (length (first_line now.left.now) + 1) now.left.now)

    pub found_here : has_word line.content.now ≡ true → Finds before (Some line) after
    found_here w = (
      l.lines ∙ ap (worded now.number) split
          ∙ worded_hit now.number (first_line now.left.now) (lines_of after.left.now) (ap has_word (sym c.2) ∙ w)
          ∙ (λ i. line_at (sym c.1 i) (sym c.2 i) ∷ worded (suc now.number) (lines_of after.left.now))
          ∙ ap (λ (n : ℕ). line_at line.number line.content.now ∷ worded n (lines_of after.left.now)) (sym (c.3 ∙ add-one now.number)),
      omega (arith, shorter, l.forth),
    )

    pub looking_more : has_word line.content.now ≡ false → Looking before after
    looking_more w =
        record {
          lines =
              l.lines ∙ ap (worded now.number) split
              ∙ worded_skip now.number (first_line now.left.now) (lines_of after.left.now) (ap has_word (sym c.2) ∙ w)
              ∙ ap (λ (n : ℕ). worded n (lines_of after.left.now)) (sym (c.3 ∙ add-one now.number));
          total = omega (arith, l.total, ap length split, c.3);
          forth = omega (arith, shorter, l.forth);
        }

  pub found_none : (after : Lines) → Cuts now None after → Finds before None after
  found_none after c =
      let e : lines_of now.left.now ≡ [] = lines_end now.left.now 0 (omega (arith, c.0)) in
      (l.lines ∙ ap (worded now.number) e ∙ worded_none now.number, omega (arith, l.total, ap length e, c.1))
