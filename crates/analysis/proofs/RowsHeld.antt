-- What the loop over the rows keeps true: the rows that it holds say the equations of the row in turn.
use Prim.Native.Nat.{ℕ, zero, suc, ◌+◌, ◌-◌, ◌≤◌, ◌<◌}
use mathlib.Core.Path.{◌≡◌, refl, sym, ap, subst, fun_ext, ◌∙◌}
use mathlib.Core.Bool.{Bool, true, false, ◌&&◌}
use mathlib.Core.List.{List, [], ◌∷◌, ◌++◌}
use native.Mathlib.Omega.{arith}
use native.Mathlib.Numerals.{add-one}
use native.Mathlib.Decide.{ℕ_discrete, dec_le}
use lib.Dec.{eqb, ltb}
use lib.ListN.{length, set as store, take, length-set}
use lib.Seq.{get_or-set_same, get_or-set_other, get_or-take, take-suc-set}
use borrow.Author.Tests.{eq-eqb, ne_eqb, lt-ltb, le-ltb}
use Rattle.laws.specs.Sums.{sum_to}
use Rattle.laws.specs.SumsWhere.{sum_where}
use Rattle.laws.specs.SumLaws.{sum_none, sum_more, sum_same}
use Rattle.laws.specs.SumPartLaws.{sum_rest, sum_middle, sum_nothing}
use Rattle.sheet.specs.declared.Set.{Set}
use Rattle.sheet.specs.declared.Row.{Row}
use Rattle.sheet.specs.Ranges.{row_in, memory_of, computation_of, length_of, before, WellFormed}
use Rattle.sheet.proofs.Ranks.{processors_rise}
use Rattle.analysis.specs.declared.entries.Entry.{Entry}
use Rattle.analysis.specs.Bounds.{is_higher, outranks, only, sum_over, asked, asked_with, taken, blocking, token_taken, equations_of, bound_in, Accepted, worked}
use Rattle.analysis.specs.Entries.{places, entry_term, entry_sum, before_next, entry_equations}
use Rattle.analysis.proofs.EntryLaws.{sum_more as entry_more, sum_kept}
use Rattle.analysis.proofs.RowLaws.{asked_next, asked_none, sum_over_same, token_same}

abbrev taken_at : Set → List ℕ → ℕ → ℕ → ℕ
taken_at set bounds x j = taken (row_in set j) (bound_in bounds j) x

-- what the row k places after `first` asks of its processor
abbrev asked_at : Set → ℕ → ℕ → ℕ → ℕ
asked_at set first x k = asked_with length_of (row_in set (first + k)) x

-- i rows have bounds. The rows from `first` on are on processor p, those before it outrank p. Of the rows that ask for
-- memory the first `ranked` are those that outrank p, and the first `pending` those of all i rows; the own rows are those
-- on p.
pub record Rows (set : Set) (asking own_rows : List Entry) (bounds : List ℕ) (p ranked pending first i : ℕ) : Type 0 where
  pub within : i ≤ set.count
  pub from : first ≤ i
  pub long_asking : length asking ≡ places
  pub long_own : length own_rows ≡ places
  pub long : length bounds ≡ places
  pub outcome : worked set i ≡ Accepted (take i bounds)
  pub outrank : (j : ℕ) → j < first → (row_in set j).processor < p
  pub same : (j : ℕ) → first ≤ j → j < i → (row_in set j).processor ≡ p
  pub ranked_most : ranked ≤ pending
  pub pending_most : pending ≤ i
  pub token : (x : ℕ) → entry_sum (take ranked asking) x ≡ sum_to (taken_at set bounds x) first
  pub waiting : (x : ℕ) → entry_sum (take pending asking) x ≡ sum_to (taken_at set bounds x) i
  pub started : (x : ℕ) → entry_sum (take (i - first) own_rows) x ≡ sum_to (asked_at set first x) (i - first)

no_entries : (l : List Entry) (x : ℕ) → entry_sum (take 0 l) x ≡ 0
unfolding entry_sum
no_entries l x = refl

pub rows_first : (set : Set) (asking own_rows : List Entry) (bounds : List ℕ) → length asking ≡ places → length own_rows ≡ places → length bounds ≡ places
    → Rows set asking own_rows bounds 0 0 0 0 0
unfolding worked
rows_first set asking own_rows bounds a o b =
    record {
      within = omega arith;
      from = omega arith;
      long_asking = a;
      long_own = o;
      long = b;
      outcome = refl;
      outrank = λ j h. absurd (omega (arith, h));
      same = λ j h l. absurd (omega (arith, l));
      ranked_most = omega arith;
      pending_most = omega arith;
      token = λ x. no_entries asking x ∙ sym (sum_none _);
      waiting = λ x. no_entries asking x ∙ sym (sum_none _);
      started = λ x. no_entries own_rows x ∙ sym (sum_none _);
    }

-- Row i's turn, on its own processor: the one before, or one that all rows before outrank.
module _ (set : Set) (wf : WellFormed set) (asking own_rows : List Entry) (bounds : List ℕ) (p ranked pending first i : ℕ) (rows : Rows set asking own_rows bounds p ranked pending first i) (below : i < set.count) where
  after_all : p ≡ before (row_in set) i → ((row_in set i).processor ≡ p → ⊥) → (j : ℕ) → j < i → (row_in set j).processor < (row_in set i).processor
  after_all e n j l = go i refl
    where
      go : (k : ℕ) → i ≡ k → (row_in set j).processor < (row_in set i).processor
      go zero q = absurd (omega (arith, q, l))
      go (suc k) q =
          let b : p ≡ (row_in set k).processor = e ∙ ap (before (row_in set)) q in
          let s = processors_rise set wf k i (omega (arith, q)) below in
          let r = processors_rise set wf j k (omega (arith, q, l)) (omega (arith, q, below)) in
          omega (arith, n, s, r, b)

  pub rows_same : (row_in set i).processor ≡ p → Rows set asking own_rows bounds (row_in set i).processor ranked pending first i
  rows_same q = subst (λ (r : ℕ). Rows set asking own_rows bounds r ranked pending first i) (sym q) rows

  none_started : (x : ℕ) → entry_sum (take (i - i) own_rows) x ≡ sum_to (asked_at set i x) (i - i)
  none_started x =
      let z : i - i ≡ 0 = omega arith in
      rw z (no_entries own_rows x ∙ sym (sum_none _))

  pub rows_other : p ≡ before (row_in set) i → ((row_in set i).processor ≡ p → ⊥) → Rows set asking own_rows bounds (row_in set i).processor pending pending i i
  rows_other e n =
      record {
        within = rows.within;
        from = omega arith;
        long_asking = rows.long_asking;
        long_own = rows.long_own;
        long = rows.long;
        outcome = rows.outcome;
        outrank = after_all e n;
        same = λ j h l. absurd (omega (arith, h, l));
        ranked_most = omega arith;
        pending_most = rows.pending_most;
        token = rows.waiting;
        waiting = rows.waiting;
        started = none_started;
      }

-- A row with the bound r after the rows that ask for memory: stored behind them, where it asks for memory itself.
pub record Asks (asking : List Entry) (pending : ℕ) (row : Row) (r : ℕ) (asking' : List Entry) (pending' : ℕ) : Type 0 where
  pub long : length asking' ≡ length asking
  pub kept : (n x : ℕ) → n ≤ pending → entry_sum (take n asking') x ≡ entry_sum (take n asking) x
  pub more : (x : ℕ) → entry_sum (take pending' asking') x ≡ entry_sum (take pending asking) x + taken row r x
  pub least : pending ≤ pending'
  pub most : pending' ≤ pending + 1

module _ (asking : List Entry) (pending : ℕ) (row : Row) (r : ℕ) where
  pub asks_none : memory_of row ≡ 0 → Asks asking pending row r asking pending
  asks_none h =
      record { long = refl; kept = λ n x l. refl; more = λ x. let z : taken row r x ≡ 0 = rw h (omega arith) in omega arith; least = omega arith; most = omega arith }

  pub asks_one : pending < length asking → (e : Entry) → ((x : ℕ) → entry_term x e ≡ taken row r x) → Asks asking pending row r (store asking pending e) (pending + 1)
  asks_one h e t =
      record {
        long = length-set asking pending e;
        kept = λ n x l. sum_kept asking pending e x n l;
        more = λ x. omega (arith, entry_more asking pending e x h, t x);
        least = omega arith;
        most = omega arith;
      }

-- What is held at row i's turn.
module _ (set : Set) (wf : WellFormed set) (asking own_rows : List Entry) (bounds : List ℕ) (ranked pending first i : ℕ) (rows : Rows set asking own_rows bounds (row_in set i).processor ranked pending first i) (below : i < set.count) where
  started_is : (x : ℕ) → entry_sum (take (i - first) own_rows) x ≡ sum_over set (is_higher set i) (λ j. asked_with length_of (row_in set j) x)
  unfolding sum_over sum_where
  started_is x =
      rows.started x
      ∙ sym (sum_middle (λ j. only (is_higher set i j) (asked_with length_of (row_in set j) x)) (λ j. asked_with length_of (row_in set j) x) first i set.count
      rows.from rows.within
      (λ j h. let n : eqb (row_in set j).processor (row_in set i).processor ≡ false = ne_eqb _ _ (apart j h) in rw n)
      (λ j h l. let s : eqb (row_in set j).processor (row_in set i).processor ≡ true = eq-eqb _ _ (rows.same j h l) in rw (s, lt-ltb j i l))
      (λ j h l. only_none (eqb (row_in set j).processor (row_in set i).processor) (ltb j i) (asked_with length_of (row_in set j) x) (le-ltb j i h)))
    where
      apart : (j : ℕ) → j < first → (row_in set j).processor ≡ (row_in set i).processor → ⊥
      apart j h q = omega (arith, rows.outrank j h, q)

      only_none : (a b : Bool) (v : ℕ) → b ≡ false → only (a && b) v ≡ 0
      only_none true b v e = rw e
      only_none false b v e = refl

  above_is : (x : ℕ) → before_next (entry_sum (take (i - first) own_rows)) x ≡ sum_over set (is_higher set i) (λ j. asked length_of (row_in set j) x)
  unfolding sum_over sum_where
  above_is zero =
      sym (sum_nothing (λ j. only (is_higher set i j) (asked length_of (row_in set j) 0)) set.count
      (λ j h. zero_only (is_higher set i j) (asked length_of (row_in set j) 0) (asked_none length_of (row_in set j) (wf.row j h).period_some)))
    where
      zero_only : (b : Bool) (v : ℕ) → v ≡ 0 → only b v ≡ 0
      zero_only true v e = e
      zero_only false v e = refl
  above_is (suc x) = started_is x ∙ sym (sum_over_same set (is_higher set i) _ _ (λ j h q. asked_next length_of (row_in set j) x (wf.row j h).period_some))

  token_is : (x : ℕ) → entry_sum (take ranked asking) x ≡ token_taken set (bound_in bounds) i x
  unfolding token_taken sum_over sum_where
  token_is x =
      rows.token x
      ∙ sym (sum_rest (λ j. only (outranks set i j) (taken_at set bounds x j)) first set.count (omega (arith, rows)) (λ j h l. none j h l (dec_le i j))
      ∙ sum_same _ _ first (λ j h. let s : outranks set i j ≡ true = lt-ltb _ _ (rows.outrank j h) in rw s))
    where
      none : (j : ℕ) → first ≤ j → j < set.count → Dec (i ≤ j) → only (outranks set i j) (taken_at set bounds x j) ≡ 0
      none j h l (yes q) = let s : outranks set i j ≡ false = le-ltb _ _ (processors_rise set wf i j q l) in rw s
      none j h l (no q) =
          let e : (row_in set j).processor ≡ (row_in set i).processor = rows.same j h (omega arith) in
          let s : outranks set i j ≡ false = le-ltb (row_in set j).processor (row_in set i).processor (omega (arith, e)) in
          rw s

  -- the bounds so far are the first i of the array of bounds
  token_taken_lem : token_taken set (bound_in bounds) i ≡ token_taken set (bound_in (take i bounds)) i
  token_taken_lem = token_same set wf (bound_in bounds) (bound_in (take i bounds)) i below (λ j h. sym (get_or-take i bounds j 0 h))

  -- it says row i's equations
  pub rows_equations : (blocked : ℕ) → blocked ≡ blocking set i → entry_equations (take ranked asking) (take (i - first) own_rows) (row_in set i) blocked ≡ equations_of set (bound_in (take i bounds)) i
  unfolding entry_equations equations_of
  rows_equations blocked e =
      let a = fun_ext above_is in
      let s = fun_ext started_is in
      let k = fun_ext token_is ∙ token_taken_lem in
      λ z. record {
        blocked = e z;
        memory = memory_of (row_in set i);
        computation = computation_of (row_in set i);
        period = (row_in set i).period;
        above = a z;
        started = s z;
        token = k z;
      }

  -- row i is done: it has the bound r, and its places
  module _ (r : ℕ) (own' asking' : List Entry) (pending' : ℕ) (e : Entry) (stored : own' ≡ store own_rows (i - first) e) (higher : (x : ℕ) → entry_term x e ≡ asked_with length_of (row_in set i) x)
      (asks : Asks asking pending (row_in set i) r asking' pending') where
    few : i < places
    few = omega (arith, wf.rows_most)

    kept_taken : (n x : ℕ) → n ≤ i → sum_to (taken_at set (store bounds i r) x) n ≡ sum_to (taken_at set bounds x) n
    kept_taken n x h = sum_same _ _ n (λ j l. ap (λ (b : ℕ). taken (row_in set j) b x) (get_or-set_other bounds i j r 0 (λ q. omega (arith, q, l, h))))

    -- what row i itself takes
    own_taken : (x : ℕ) → taken_at set (store bounds i r) x i ≡ taken (row_in set i) r x
    own_taken x = ap (λ (b : ℕ). taken (row_in set i) b x) (get_or-set_same bounds i r 0 (omega (arith, rows.long, few)))

    taken_more : (x : ℕ) → sum_to (taken_at set (store bounds i r) x) (i + 1) ≡ sum_to (taken_at set bounds x) i + taken (row_in set i) r x
    taken_more x = omega (arith, sum_more (taken_at set (store bounds i r) x) i, kept_taken i x (omega arith), own_taken x)

    now_started : (x : ℕ) → entry_sum (take (i + 1 - first) own') x ≡ sum_to (asked_at set first x) (i + 1 - first)
    now_started x =
        let n : i + 1 - first ≡ i - first + 1 = omega (arith, rows.from) in
        let here : first + (i - first) ≡ i = omega (arith, rows.from) in
        rw (n, stored)
        (entry_more own_rows (i - first) e x (omega (arith, rows.long_own, few))
        ∙ omega (arith, rows.started x, higher x, sum_more (asked_at set first x) (i - first), ap (λ (j : ℕ). asked_with length_of (row_in set j) x) here))

    now_outcome : worked set (suc i) ≡ Accepted (take i bounds ++ (r ∷ [])) → worked set (i + 1) ≡ Accepted (take (i + 1) (store bounds i r))
    now_outcome q = rw (add-one, take-suc-set bounds i r (omega (arith, rows.long, few))) q

    now_same : (j : ℕ) → first ≤ j → j < i + 1 → (row_in set j).processor ≡ (row_in set i).processor
    now_same j h l = go (ℕ_discrete j i)
      where
        go : Dec (j ≡ i) → (row_in set j).processor ≡ (row_in set i).processor
        go (yes q) = rw q
        go (no n) = rows.same j h (omega (arith, l, n))

    pub rows_next : worked set (suc i) ≡ Accepted (take i bounds ++ (r ∷ [])) → Rows set asking' own' (store bounds i r) (row_in set i).processor ranked pending' first (i + 1)
    rows_next q =
        record {
          within = omega arith;
          from = omega (arith, rows.from);
          long_asking = asks.long ∙ rows.long_asking;
          long_own = ap length stored ∙ length-set own_rows (i - first) e ∙ rows.long_own;
          long = length-set bounds i r ∙ rows.long;
          outcome = now_outcome q;
          outrank = rows.outrank;
          same = now_same;
          ranked_most = omega (arith, rows.ranked_most, asks.least);
          pending_most = omega (arith, rows.pending_most, asks.most);
          token = λ x. asks.kept ranked x rows.ranked_most ∙ rows.token x ∙ sym (kept_taken first x rows.from);
          waiting = λ x. omega (arith, asks.more x, rows.waiting x, taken_more x);
          started = now_started;
        }
