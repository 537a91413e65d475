-- Laws of text put into a buffer: nothing, one byte, and one text after another.
use Prim.Native.Nat.{ℕ, ◌+◌, ◌-◌, ◌≤◌, ◌<◌, min}
use mathlib.Core.Path.{◌≡◌, refl, sym, ap, ap₂, ◌∙◌}
use mathlib.Core.List.{List, [], ◌∷◌, ◌++◌, append_assoc, append-nil}
use native.Mathlib.Omega.{arith}
use native.Mathlib.Decide.{dec_lt}
use native.Mathlib.Numerals.{add-one}
use borrow.Rule.Slice.PartMut.{put_mid}
use Rattle.std.proofs.lemmas.List.{take_min}
use lib.ListN.{length, take, drop, set, take-append-drop, length-append, length-take, length-drop, drop_of_length-le}
use lib.Seq.{take_all, take-nil, take-append-le, take-append-add, take-append_seam, drop-append-add, drop-drop, set_split}
use Rattle.std.specs.Borrow.{MutBor}
use Rattle.text.specs.declared.Text.{Text}
use Rattle.text.specs.Putting.{with_text, end_after, Puts, Begins, Adds}
use Rattle.text.specs.Lines.{lines_to}

-- From a place past the buffer's end nothing fits.
full : (b : List ℕ) (e : ℕ) (t : List ℕ) → length b ≤ e → with_text b e t ≡ b
unfolding with_text
full b e t h =
    let z : length b - e ≡ 0 = omega arith in
    rw (take_all e b h, z, drop_of_length-le b {i = e + length t} (omega arith)) (append-nil b)

pub length_with : (b : List ℕ) (e : ℕ) (t : List ℕ) → length (with_text b e t) ≡ length b
unfolding with_text
length_with b e t = simp (length-append, length-take, length-drop) (omega arith)

pub puts_none : (b : List ℕ) (e : ℕ) → Puts [] b e b e
unfolding with_text end_after
puts_none b e =
    let z : e + 0 ≡ e = omega arith in
    record { buffer_is = rw (take-nil (length b - e), z) (sym (take-append-drop e b)); end_is = omega arith }

pub puts_full : (b : List ℕ) (e : ℕ) (t : List ℕ) → length b ≤ e → Puts t b e b e
unfolding end_after
puts_full b e t h = record { buffer_is = sym (full b e t h); end_is = omega arith }

pub puts_byte : (b : List ℕ) (e x : ℕ) → e < length b → Puts (x ∷ []) b e (set b e x) (e + 1)
unfolding with_text end_after
puts_byte b e x h =
    record { buffer_is = rw (set_split b e x h, take_all (length b - e) (x ∷ []) (omega arith), add-one e); end_is = omega arith }

-- What lies behind a text that goes on to the buffer's end, and not past it.
behind_part : (b : List ℕ) (e m : ℕ) → drop (e + min (length b - e) m) b ≡ drop (e + m) b
behind_part b e m = go (dec_lt (e + m) (length b))
  where
    go : Dec (e + m < length b) → drop (e + min (length b - e) m) b ≡ drop (e + m) b
    go (yes h) =
        let n : min (length b - e) m ≡ m = omega arith in
        ap (λ k. drop (e + k) b) n
    go (no h) = drop_of_length-le b {i = e + min (length b - e) m} (omega arith) ∙ sym (drop_of_length-le b {i = e + m} (omega arith))

-- As much of the text as there is room for is copied.
pub puts_part : (b : List ℕ) (e n k : ℕ) (t part : List ℕ) → n ≡ min (length b - e) (length t) → k ≡ n → part ≡ take n t → Puts t b e (put_mid e k b part) (e + n)
unfolding with_text end_after
puts_part b e n k t part h i p =
    record {
      buffer_is = rw (p, i, drop-drop n e b, h, take_min (length b - e) t, behind_part b e (length t));
      end_is = omega arith;
    }

-- Where all of the text fits.
fits : (b : List ℕ) (e : ℕ) (t : List ℕ) → e + length t ≤ length b → with_text b e t ≡ (take e b ++ t) ++ drop (e + length t) b
unfolding with_text
fits b e t h = rw (take_all (length b - e) t (omega arith)) (sym (append_assoc (take e b) t _))

-- A text that fills the buffer leaves no room for another.
fills : (b : List ℕ) (e : ℕ) (s t : List ℕ) → length b ≤ e + length s → with_text b e s ≡ with_text b e (s ++ t)
unfolding with_text
fills b e s t h =
    rw (
      take-append-le (length b - e) s t (omega arith),
      drop_of_length-le b {i = e + length s} h,
      drop_of_length-le b {i = e + length (s ++ t)} (omega (arith, length-append s t)),
    )

behind : (p q t : List ℕ) → with_text (p ++ q) (length p) t ≡ p ++ (take (length q) t ++ drop (length t) q)
unfolding with_text
behind p q t =
    let e : length (p ++ q) - length p ≡ length q = omega (arith, length-append p q) in
    rw (e, take-append_seam p q, drop-append-add p q (length t))

-- After a text that does not fill it another goes on.
beyond : (b : List ℕ) (e : ℕ) (s t : List ℕ) → e + length s ≤ length b
    → (take e b ++ s) ++ (take (length (drop (e + length s) b)) t ++ drop (length t) (drop (e + length s) b)) ≡ with_text b e (s ++ t)
unfolding with_text
beyond b e s t h =
    let k = length b - (e + length s) in
    let n : length b - e ≡ length s + k = omega arith in
    let d : e + length (s ++ t) ≡ e + length s + length t = omega (arith, length-append s t) in
    rw (length-drop (e + length s) b, drop-drop (length t) (e + length s) b, n, take-append-add s t k, d) (append_assoc (take e b) s _ ∙ ap (λ x. take e b ++ x) (sym (append_assoc s _ _)))

goes_on : (b : List ℕ) (e : ℕ) (s t : List ℕ) → e + length s ≤ length b → with_text (with_text b e s) (e + length s) t ≡ with_text b e (s ++ t)
goes_on b e s t h =
    let p = take e b ++ s in
    let q = drop (e + length s) b in
    let long : e + length s ≡ length p = simp (length-append, length-take) (omega arith) in
    ap₂ (λ x n. with_text x n t) (fits b e s h) long ∙ behind p q t ∙ beyond b e s t h

then_with : (b : List ℕ) (e : ℕ) (s t : List ℕ) → with_text (with_text b e s) (end_after (length b) e s) t ≡ with_text b e (s ++ t)
unfolding end_after
then_with b e s t = go (dec_lt (e + length s) (length b))
  where
    go : Dec (e + length s < length b) → with_text (with_text b e s) (e + min (length s) (length b - e)) t ≡ with_text b e (s ++ t)
    go (yes h) =
        let m : e + min (length s) (length b - e) ≡ e + length s = omega arith in
        ap (λ n. with_text (with_text b e s) n t) m ∙ goes_on b e s t (omega arith)
    go (no h) = full (with_text b e s) _ t (omega (arith, length_with b e s)) ∙ fills b e s t (omega arith)

then_end : (n e : ℕ) (s t : List ℕ) → end_after n (end_after n e s) t ≡ end_after n e (s ++ t)
unfolding end_after
then_end n e s t = simp length-append (omega arith)

pub puts_then : {s t b₀ b₁ b₂ : List ℕ} {e₀ e₁ e₂ : ℕ} → Puts s b₀ e₀ b₁ e₁ → Puts t b₁ e₁ b₂ e₂ → Puts (s ++ t) b₀ e₀ b₂ e₂
puts_then {s} {t} {b₀} {b₁} {b₂} {e₀} {e₁} {e₂} p q =
    record {
      buffer_is = q.buffer_is ∙ ap₂ (λ b e. with_text b e t) p.buffer_is p.end_is ∙ then_with b₀ e₀ s t;
      end_is =
          q.end_is ∙ ap₂ (λ b e. end_after (length b) e t) p.buffer_is p.end_is
          ∙ ap (λ n. end_after n (end_after (length b₀) e₀ s) t) (length_with b₀ e₀ s)
          ∙ then_end (length b₀) e₀ s t;
    }

pub adds_none : (text : Text) → Adds [] text text
adds_none text = record { same_buffer = refl; puts = puts_none _ _ }

pub adds_then : {s t : List ℕ} {first next last : Text} → Adds s first next → Adds t next last → Adds (s ++ t) first last
adds_then p q = record { puts = puts_then p.puts q.puts; same_buffer = q.same_buffer ∙ p.same_buffer }

-- What the lender of the buffer has in the end.
pub puts_lent : {t after : List ℕ} {start finish : ℕ} {buffer : MutBor (List ℕ)} {first last : Text}
    → Begins buffer start first → Adds t first last → after ≡ last.buffer.now → finish ≡ last.end → Puts t buffer.now start after finish
puts_lent b p a f = rw (a, f, ← b.buffer_is, ← b.end_is) p.puts

pub puts_length : {t b b' : List ℕ} {e e' : ℕ} → Puts t b e b' e' → length b' ≡ length b
puts_length {t} {b} {b'} {e} p = ap length p.buffer_is ∙ length_with b e t

pub puts_within : {t b b' : List ℕ} {e e' : ℕ} → Puts t b e b' e' → e ≤ length b → e' ≤ length b'
unfolding end_after
puts_within {t} {b} {b'} {e} p h = omega (arith, p.end_is, puts_length p)

-- A loop puts lines one after the other.
module _ (line_of : ℕ → List ℕ) where
  pub lines_none : (text : Text) → Adds (lines_to line_of 0) text text
  unfolding lines_to
  lines_none text = adds_none text

  pub lines_more : (i : ℕ) {first next last : Text} → Adds (lines_to line_of i) first next → Adds (line_of i) next last → Adds (lines_to line_of (i + 1)) first last
  unfolding lines_to
  lines_more i p q = rw (add-one i) (adds_then p q)
