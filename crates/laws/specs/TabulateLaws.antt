-- Laws of lists made of a function's values; what a loop that fills one keeps true.
use Rattle.std.specs.Prelude.{◌≡◌, List, length, get_or, set, replicate, eqb, ltb}
use Rattle.std.proofs.Math.Path.{refl, ap, sym}
use Rattle.std.proofs.Common.{◌∙◌, le_of_suc-le-suc, not-suc-le-zero, add-suc, suc-add, add-zero, zero-add, arith, length-set, ext_get_or, get_or-set_same, get_or-set_other, eq-eqb, ne_eqb, lt-ltb, le-ltb}
use Prim.Native.Nat.{ℕ, zero, suc, ◌+◌, ◌<◌, ◌≤◌}
use Rattle.std.proofs.Math.Decide.{ℕ_discrete, dec_lt}
use Rattle.std.proofs.lemmas.List.{length-replicate, get_or-replicate}
use Rattle.std.proofs.Math.ListN.{get_or-eq_default}
use Rattle.laws.specs.Choice.{pick}
use Rattle.laws.specs.Tabulate.{tab_from, tab, padded}

module _ {A : Type 0} where
  length_tab_from : (f : ℕ → A) (i n : ℕ) → length (tab_from f i n) ≡ n
  unfolding tab_from
  length_tab_from f i zero = refl
  length_tab_from f i (suc n) = ap suc (length_tab_from f (suc i) n)

  pub length_tab : (n : ℕ) (f : ℕ → A) → length (tab n f) ≡ n
  length_tab n f = length_tab_from f 0 n

  get_d_tab_from : (f : ℕ → A) (i n k : ℕ) (d : A) → k < n → get_or (tab_from f i n) k d ≡ f (i + k)
  unfolding tab_from
  get_d_tab_from f i zero k d h = absurd (not-suc-le-zero h)
  get_d_tab_from f i (suc n) zero d h = ap f (sym (add-zero i))
  get_d_tab_from f i (suc n) (suc k) d h = get_d_tab_from f (suc i) n k d (le_of_suc-le-suc h) ∙ ap f (suc-add i k ∙ sym (add-suc i k))

  pub get_d_tab : (n : ℕ) (f : ℕ → A) (k : ℕ) (d : A) → k < n → get_or (tab n f) k d ≡ f k
  get_d_tab n f k d h = get_d_tab_from f 0 n k d h ∙ ap f (zero-add k)

  pub tab_beyond : (n : ℕ) (f : ℕ → A) (k : ℕ) (d : A) → n ≤ k → get_or (tab n f) k d ≡ d
  tab_beyond n f k d h = get_or-eq_default (tab n f) d {n = k} (omega (arith, length_tab n f))

  -- A list of n elements is told by them.
  pub is_tab : (n : ℕ) (f : ℕ → A) (d : A) (l : List A) → length l ≡ n → ((k : ℕ) → k < n → get_or l k d ≡ f k) → l ≡ tab n f
  is_tab n f d l e h =
      ext_get_or d l (tab n f) (e ∙ sym (length_tab n f)) (λ k g. h k (omega arith) ∙ sym (get_d_tab n f k d (omega arith)))

  pub tab_same : (n : ℕ) (f g : ℕ → A) (d : A) → ((k : ℕ) → k < n → f k ≡ g k) → tab n f ≡ tab n g
  tab_same n f g d h = is_tab n g d (tab n f) (length_tab n f) (λ k l. get_d_tab n f k d l ∙ h k l)

  -- One element put, point by point.
  pub set_tab : (l : List A) (n i : ℕ) (v d : A) → length l ≡ n → i < n → set l i v ≡ tab n (λ k. pick (eqb k i) v (get_or l k d))
  set_tab l n i v d e h = is_tab n (λ k. pick (eqb k i) v (get_or l k d)) d (set l i v) (length-set l i v ∙ e) (λ k g. go k (ℕ_discrete k i))
    where
      go : (k : ℕ) → Dec (k ≡ i) → get_or (set l i v) k d ≡ pick (eqb k i) v (get_or l k d)
      go k (yes p) = rw (eq-eqb k i p, p, get_or-set_same l i v d (omega arith))
      go k (no m) = rw (ne_eqb k i m) (get_or-set_other l i k v d m)

-- A loop stores f 0, f 1, .. in turn and stands at i of n: those below i are done.
pub record Stored {A : Type 0} (f : ℕ → A) (d : A) (n : ℕ) (out : List A) (i : ℕ) : Type 0 where
  pub within : i ≤ n
  pub long : length out ≡ n
  pub done : (k : ℕ) → k < i → get_or out k d ≡ f k

module _ {A : Type 0} (f : ℕ → A) (d : A) (n : ℕ) where
  pub stored_none : (out : List A) → length out ≡ n → Stored f d n out 0
  stored_none out l = record { within = omega arith; long = l; done = λ k h. absurd (not-suc-le-zero h) }

  pub stored_more : (out : List A) (i : ℕ) (v : A) → Stored f d n out i → i < n → v ≡ f i → Stored f d n (set out i v) (i + 1)
  stored_more out i v s h e = record { within = omega arith; long = length-set out i v ∙ s.long; done = λ k l. go k l (ℕ_discrete k i) }
    where
      go : (k : ℕ) → k < i + 1 → Dec (k ≡ i) → get_or (set out i v) k d ≡ f k
      go k l (yes p) = rw (p, get_or-set_same out i v d (omega (arith, s.long)), e)
      go k l (no m) = get_or-set_other out i k v d m ∙ s.done k (omega (arith, m))

  pub stored_all : (out : List A) (i : ℕ) → Stored f d n out i → n ≤ i → out ≡ tab n f
  stored_all out i s h = is_tab n f d out s.long (λ k g. s.done k (omega (arith, s.within)))

-- The same for a loop that begins with z in every place and stops at a count.
module _ {A : Type 0} (f : ℕ → A) (z : A) where
  pub padded_at : (n k i : ℕ) (d : A) → i < n → i < k → get_or (padded n k f z) i d ≡ f i
  padded_at n k i d h l = get_d_tab n _ i d h ∙ rw (lt-ltb i k l)

  pub padded_past : (n k i : ℕ) (d : A) → i < n → k ≤ i → get_or (padded n k f z) i d ≡ z
  padded_past n k i d h l = get_d_tab n _ i d h ∙ rw (le-ltb i k l)

  -- past k there is z, past the list's end too
  pub padded_rest : (n k i : ℕ) → k ≤ i → get_or (padded n k f z) i z ≡ z
  padded_rest n k i l = go (dec_lt i n)
    where
      go : Dec (i < n) → get_or (padded n k f z) i z ≡ z
      go (yes h) = padded_past n k i z h l
      go (no h) = tab_beyond n _ i z (omega arith)

  pub padded_none : (n : ℕ) → replicate n z ≡ padded n 0 f z
  padded_none n =
      is_tab n (λ i. pick (ltb i 0) (f i) z) z (replicate n z) (length-replicate n z) (λ k h. get_or-replicate n k z z h ∙ rw (le-ltb k 0 (omega arith)))

  pub padded_more : (n i : ℕ) → i < n → set (padded n i f z) i (f i) ≡ padded n (i + 1) f z
  padded_more n i h =
      is_tab n _ z (set (padded n i f z) i (f i)) (length-set (padded n i f z) i (f i) ∙ length_tab n _) (λ k g. go k g (ℕ_discrete k i) (dec_lt k i))
    where
      go : (k : ℕ) → k < n → Dec (k ≡ i) → Dec (k < i) → get_or (set (padded n i f z) i (f i)) k z ≡ pick (ltb k (i + 1)) (f k) z
      go k g (yes p) l =
          rw (p, get_or-set_same (padded n i f z) i (f i) z (omega (arith, length_tab n (λ j. pick (ltb j i) (f j) z))), lt-ltb i (i + 1) (omega arith))
      go k g (no m) (yes l) = get_or-set_other (padded n i f z) i k (f i) z m ∙ padded_at n i k z g l ∙ rw (lt-ltb k (i + 1) (omega arith))
      go k g (no m) (no l) = get_or-set_other (padded n i f z) i k (f i) z m ∙ padded_past n i k z g (omega arith) ∙ rw (le-ltb k (i + 1) (omega arith))

pub padded_same : {A : Type 0} (f g : ℕ → A) (z : A) (n k : ℕ) → ((i : ℕ) → i < k → f i ≡ g i) → padded n k f z ≡ padded n k g z
padded_same f g z n k h = tab_same n _ _ z (λ i l. go i (dec_lt i k))
  where
    go : (i : ℕ) → Dec (i < k) → pick (ltb i k) (f i) z ≡ pick (ltb i k) (g i) z
    go i (yes l) = rw (lt-ltb i k l) (h i l)
    go i (no l) = rw (le-ltb i k (omega arith))
