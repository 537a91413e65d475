-- Laws of the first index and of the test of all; what a loop that looks for either keeps true.
use Rattle.std.specs.Prelude.{◌≡◌, refl, Bool, true, false, ◌&&◌, ◌⊎◌, ℕ, zero, suc, ◌+◌, ◌-◌, ◌<◌, ◌≤◌, eqb}
use Rattle.std.proofs.Common.{sym, ap, ◌∙◌, inl, inr, ⊎_elim, le_of_suc-le-suc, not-suc-le-zero, add-suc, suc-add, add-zero, zero-add, add-one, arith, ne_eqb}
use Rattle.std.proofs.Math.Decide.{ℕ_discrete}
use Rattle.laws.specs.ChoiceLaws.{true_not_false}
use Rattle.laws.specs.RoundingLaws.{split}
use Rattle.laws.specs.Search.{first_from, first, all_from, all}

below_suc : (i n : ℕ) → i < n → n - i ≡ suc (n - (i + 1))
below_suc i n h = omega arith

-- A loop that looks for the first stands at i of n: what is left of the search is the whole search's answer.
pub first_hit : (f : ℕ → Bool) (i n : ℕ) → i < n → f i ≡ true → first_from f i (n - i) ≡ i
unfolding first_from
first_hit f i n h t = rw (below_suc i n h, t, first_from)

pub first_skip : (f : ℕ → Bool) (i n : ℕ) → i < n → f i ≡ false → first_from f i (n - i) ≡ first_from f (i + 1) (n - (i + 1))
unfolding first_from
first_skip f i n h t = rw (below_suc i n h, t, first_from, add-one i)

pub first_end : (f : ℕ → Bool) (i n : ℕ) → n ≤ i → first_from f i (n - i) ≡ i
unfolding first_from
first_end f i n h = let e : n - i ≡ 0 = omega arith in rw e

-- The same for a loop that tests all.
pub all_fail : (f : ℕ → Bool) (i n : ℕ) → i < n → f i ≡ false → all_from f i (n - i) ≡ false
unfolding all_from
all_fail f i n h t = rw (below_suc i n h, t, all_from)

pub all_pass : (f : ℕ → Bool) (i n : ℕ) → i < n → f i ≡ true → all_from f i (n - i) ≡ all_from f (i + 1) (n - (i + 1))
unfolding all_from
all_pass f i n h t = rw (below_suc i n h, t, all_from, add-one i)

pub all_end : (f : ℕ → Bool) (i n : ℕ) → n ≤ i → all_from f i (n - i) ≡ true
unfolding all_from
all_end f i n h = let e : n - i ≡ 0 = omega arith in rw e

-- A test of all is a test of each.
from_all : (f : ℕ → Bool) (i n k : ℕ) → all_from f i n ≡ true → k < n → f (i + k) ≡ true
unfolding all_from
from_all f i zero k t h = absurd (not-suc-le-zero h)
from_all f i (suc n) k t h = go (λ k. from_all f (suc i) n k) (f i) k refl t h
  where
    go : ((k : ℕ) → all_from f (suc i) n ≡ true → k < n → f (suc i + k) ≡ true) → (b : Bool) (k : ℕ) → f i ≡ b → elim b [ true ↦ all_from f (suc i) n | false ↦ false ] ≡ true → k < suc n → f (i + k) ≡ true
    go ih true zero e t h = rw (add-zero i) e
    go ih true (suc k) e t h = rw (add-suc i k, ← suc-add i k) (ih k t (le_of_suc-le-suc h))
    go ih false k e t h = absurd (let z : ◌≡◌ {A = ℕ} 0 1 = cc in omega arith)

pub all_at : (n : ℕ) (f : ℕ → Bool) (k : ℕ) → all n f ≡ true → k < n → f k ≡ true
all_at n f k t h = rw zero-add at (from_all f 0 n k t h)

to_all : (f : ℕ → Bool) (i n : ℕ) → ((k : ℕ) → k < n → f (i + k) ≡ true) → all_from f i n ≡ true
unfolding all_from
to_all f i zero h = refl
to_all f i (suc n) h =
    let e : f i ≡ true = rw add-zero at (h 0 (omega arith)) in
    rw (e, all_from) (to_all f (suc i) n (λ k l. rw (suc-add i k, ← add-suc i k) (h (suc k) (omega arith))))

pub all_of : (n : ℕ) (f : ℕ → Bool) → ((k : ℕ) → k < n → f k ≡ true) → all n f ≡ true
all_of n f h = to_all f 0 n (λ k l. rw zero-add (h k l))

-- One place more is one test more.
from_more : (f : ℕ → Bool) (i n : ℕ) → all_from f i (suc n) ≡ (all_from f i n && f (i + n))
unfolding all_from
from_more f i zero = rw add-zero (go (f i))
  where
    go : (b : Bool) → elim b [ true ↦ true | false ↦ false ] ≡ b
    go true = refl
    go false = refl
from_more f i (suc n) = go (from_more f (suc i) n) (f i)
  where
    go : all_from f (suc i) (suc n) ≡ (all_from f (suc i) n && f (suc i + n)) → (b : Bool) → elim b [ true ↦ all_from f (suc i) (suc n) | false ↦ false ] ≡ (elim b [ true ↦ all_from f (suc i) n | false ↦ false ] && f (i + suc n))
    go ih true = ih ∙ ap (λ (z : ℕ). all_from f (suc i) n && f z) (suc-add i n ∙ sym (add-suc i n))
    go ih false = refl

pub all_more : (n : ℕ) (f : ℕ → Bool) → all (n + 1) f ≡ (all n f && f n)
all_more n f = ap (λ (z : ℕ). all z f) (add-one n) ∙ from_more f 0 n ∙ ap (λ (z : ℕ). all n f && f z) (zero-add n)

-- A test of all that fails early fails.
pub all_stays : (f : ℕ → Bool) (i n : ℕ) → i ≤ n → all i f ≡ false → all n f ≡ false
all_stays f i n l e = go (all n f) refl
  where
    go : (b : Bool) → all n f ≡ b → all n f ≡ false
    go true h = true_not_false (all i f) (all_of i f (λ k m. all_at n f k h (omega arith))) e
    go false h = h

-- What the first index says: it is at most n, where it is below n it passes, and nothing below it passes.
pub record IsFirst (f : ℕ → Bool) (i n k : ℕ) : Type 0 where
  pub from : i ≤ k
  pub within : k ≤ i + n
  pub passes : k < i + n → f k ≡ true
  pub none : (j : ℕ) → i ≤ j → j < k → f j ≡ false

first_from_lem : (f : ℕ → Bool) (i n : ℕ) → IsFirst f i n (first_from f i n)
unfolding first_from
first_from_lem f i zero =
    record { from = omega arith; within = omega arith; passes = λ h. absurd (omega (arith, h)); none = λ j a b. absurd (omega (arith, a, b)) }
first_from_lem f i (suc n) = go (first_from_lem f (suc i) n) (f i) refl
  where
    go : IsFirst f (suc i) n (first_from f (suc i) n) → (b : Bool) → f i ≡ b → IsFirst f i (suc n) (elim b [ true ↦ i | false ↦ first_from f (suc i) n ])
    go r true e = record { from = omega arith; within = omega arith; passes = λ h. e; none = λ j a b. absurd (omega (arith, a, b)) }
    go r false e =
        record {
          from = omega (arith, r.from);
          within = omega (arith, r.within);
          passes = λ h. r.passes (omega (arith, h));
          none = λ j a b. at j b (ℕ_discrete j i) a;
        }
      where
        at : (j : ℕ) → j < first_from f (suc i) n → Dec (j ≡ i) → i ≤ j → f j ≡ false
        at j b (yes p) a = rw p e
        at j b (no m) a = r.none j (omega arith) b

pub first_is : (n : ℕ) (f : ℕ → Bool) → IsFirst f 0 n (first n f)
first_is n f = first_from_lem f 0 n

-- Of two tests that agree below h, one that passes sooner does so at h or later.
sooner : (n h : ℕ) (f g : ℕ → Bool) → ((j : ℕ) → j < h → f j ≡ g j) → first n f < first n g → h ≤ first n f
sooner n h f g same l = go (split h (first n f)) (first_is n f) (first_is n g)
  where
    go : (h ≤ first n f) ⊎ (first n f < h) → IsFirst f 0 n (first n f) → IsFirst g 0 n (first n g) → h ≤ first n f
    go (inl past) p q = past
    go (inr below) p q =
        true_not_false _ (sym (same (first n f) below) ∙ p.passes (omega (arith, q.within))) (q.none (first n f) (omega arith) l)

-- Neither of two firsts is below h.
pub record Beyond (h x y : ℕ) : Type 0 where
  pub left : h ≤ x
  pub right : h ≤ y

-- Tests that agree below h have the same first, or neither passes below h.
pub first_to : (n h : ℕ) (f g : ℕ → Bool) → ((j : ℕ) → j < h → f j ≡ g j) → (first n f ≡ first n g) ⊎ Beyond h (first n f) (first n g)
first_to n h f g same = go (split (first n f) (first n g)) (split (first n g) (first n f))
  where
    go : (first n f ≤ first n g) ⊎ (first n g < first n f) → (first n g ≤ first n f) ⊎ (first n f < first n g) → (first n f ≡ first n g) ⊎ Beyond h (first n f) (first n g)
    go (inl a) (inl b) = inl (omega arith)
    go (inl a) (inr b) = let z = sooner n h f g same b in inr (record { left = z; right = omega arith })
    go (inr a) b = let z = sooner n h g f (λ j l. sym (same j l)) a in inr (record { left = omega arith; right = z })

-- Tests that agree below n have the same first of n.
pub first_same : (n : ℕ) (f g : ℕ → Bool) → ((j : ℕ) → j < n → f j ≡ g j) → first n f ≡ first n g
first_same n f g same =
    ⊎_elim (λ e. e) (λ b. omega (arith, (first_is n f).within, (first_is n g).within)) (first_to n n f g same)

-- A number below h is both firsts, or neither.
pub first_at : (h x y p : ℕ) → (x ≡ y) ⊎ Beyond h x y → p < h → eqb p x ≡ eqb p y
first_at h x y p (inl e) l = ap (eqb p) e
first_at h x y p (inr b) l = ne_eqb p x (λ e. absurd (omega arith)) ∙ sym (ne_eqb p y (λ e. absurd (omega arith)))
