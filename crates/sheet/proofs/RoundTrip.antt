-- Writing and reading back, and reading and writing back.
use Rattle.std.specs.Prelude.{Ok}
use mathlib.Core.Path.{◌≡◌, refl, sym, ap, ap₂, ◌∙◌}
use mathlib.Core.List.{List, [], ◌∷◌, ◌++◌}
use Prim.Native.Nat.{ℕ, zero, suc, ◌+◌, ◌*◌, ◌/◌, ◌%◌, ◌<◌, ◌≤◌}
use native.Mathlib.Nat.{add-zero}
use native.Mathlib.Omega.{arith}
use native.Mathlib.Decide.{dec_lt}
use lib.ListN.{length, get_or, take, drop, length-drop, take-append-drop}
use lib.Seq.{take_at, drop_at, drop-drop, drop-append-le, get_or-drop, get_or-take, take-add, take_all, length-take-le}
use borrow.Author.Tests.{ltb-false}
use Rattle.laws.specs.ChoiceLaws.{past, chain}
use Rattle.laws.specs.Tabulate.{tab_from, tab}
use Rattle.laws.specs.TabulateLaws.{is_tab, tab_same, padded_same}
use Rattle.sheet.specs.Refusals.{accepted}
use Rattle.sheet.specs.Layout.{stated_length, processors_of, count_of, length_for, record_start, row_start, length_byte, word_at, row_of, row_at}
use Rattle.sheet.specs.Ranges.{before, zero_row, row_in, row_fault, set_row_fault, set_refusal, InRange, WellFormed}
use Rattle.sheet.specs.Reading.{header_fault, record_fault, read_refusal, set_of, read_sheet}
use Rattle.sheet.specs.Writing.{word_bytes, record_bytes, records_of, header_bytes, sheet_of, write_refusal, written, trimmed}
use Rattle.sheet.specs.declared.Row.{Row}
use Rattle.sheet.specs.declared.Refusal.{Refusal}
use Rattle.sheet.specs.declared.Set.{Set}
use Rattle.sheet.proofs.Faults as faults
use Rattle.sheet.proofs.ReadingLaws as reading
use Rattle.sheet.proofs.WritingLaws as writing

-- A number within its range is that of its four bytes.
word_back : (x : ℕ) → x ≤ 1000000 → x / 16777216 % 256 * 16777216 + x / 65536 % 256 * 65536 + x / 256 % 256 * 256 + x % 256 ≡ x
word_back x h = omega arith

-- A row is read from its record, whatever follows.
row_back : (N b : ℕ) (r : Row) (rest : List ℕ) → InRange N b r → row_of (take 17 (drop 1 (record_bytes r ++ rest))) ≡ r
unfolding row_of word_at
row_back N b r rest s =
    let m = word_back r.memory s.memory_most in
    let c = word_back r.computation s.computation_most in
    let t = word_back r.period s.period_most in
    let d = word_back r.deadline (omega (arith, s.deadline_most, s.period_most)) in
    λ j. record { processor = r.processor; memory = m j; computation = c j; period = t j; deadline = d j }

-- Record i of n, and what follows it.
record_at : (f : ℕ → Row) (n i : ℕ) → i < n → (rest : List ℕ) × (drop (18 * i) (records_of f n) ≡ record_bytes (f i) ++ rest)
record_at f zero i h = absurd (omega (arith, h))
record_at f (suc n) i h = go (record_at f n i) (dec_lt i n)
  where
    go : (i < n → (rest : List ℕ) × (drop (18 * i) (records_of f n) ≡ record_bytes (f i) ++ rest)) → Dec (i < n)
        → (rest : List ℕ) × (drop (18 * i) (records_of f (suc n)) ≡ record_bytes (f i) ++ rest)
    go ih (yes l) =
        let r = ih l in
        let k : 18 * i ≤ length (records_of f n) = omega (arith, writing.length_records f n) in
        (r.0 ++ record_bytes (f n), drop-append-le (18 * i) (records_of f n) (record_bytes (f n)) k ∙ ap (λ (x : List ℕ). x ++ record_bytes (f n)) r.1)
    go ih (no m) =
        let e : n ≡ i = omega (arith, h) in
        let k : length (records_of f n) ≡ 18 * i = omega (arith, writing.length_records f n) in
        ([], drop_at (records_of f n) (record_bytes (f n)) (18 * i) k ∙ ap (λ (j : ℕ). record_bytes (f j)) e)

-- The writer takes every well-formed set.
pub well_formed_taken : (set : Set) → WellFormed set → set_refusal set ≡ accepted
unfolding set_refusal set_row_fault
well_formed_taken set w =
    faults.or_second _ _ (faults.counts_clear _ _ (record { some = w.processors_some; few = w.processors_most; rows = w.rows_most }))
    ∙ faults.no_fault (set_row_fault set) set.count (λ i l. faults.in_range_clear _ _ _ (w.row i l))

-- The sheet that is written for a set that the writer takes.
module _ (set : Set) (h : (set_refusal set).number ≡ 0) where
  s : List ℕ
  s = sheet_of set

  row_ranges : (i : ℕ) → i < set.count → InRange set.processors (before (row_in set) i) (row_in set i)
  unfolding set_row_fault row_fault
  row_ranges i l = faults.in_range _ _ _ (writing.set_rows set h i l)

  pub size : length (sheet_of set) ≡ length_for set.count
  unfolding sheet_of
  size = omega (arith, writing.length_records (row_in set) set.count)

  clear_header : header_fault s ≡ 0
  unfolding header_fault s sheet_of
  clear_header =
      let c = writing.set_counts set h in
      let x : List ℕ = header_bytes set.processors set.count ++ records_of (row_in set) set.count in
      let l : length x ≡ length_for set.count = size in
      let a : 5 ≤ length x = omega arith in
      let b : stated_length x ≡ length x = omega arith in
      let d : stated_length x ≡ length_for (count_of x) = omega arith in
      let e : set.processors ≡ 0 → ⊥ = omega arith in
      let f : set.processors ≤ 8 = omega arith in
      let g : set.count ≤ 32 = omega arith in
      let z : 0 ≡ header_fault x = search chain depth 16 in
      sym z

  record_here : (i : ℕ) → i < set.count → (rest : List ℕ) × (drop (record_start i) s ≡ record_bytes (row_in set i) ++ rest)
  unfolding s sheet_of
  record_here i l =
      let r = record_at (row_in set) set.count i l in
      (r.0, sym (drop-drop (18 * i) 5 (sheet_of set)) ∙ r.1)

  length_here : (i : ℕ) → i < set.count → length_byte s i ≡ 17
  length_here i l =
      let r = record_here i l in
      ap (λ (k : ℕ). get_or s k 0) (sym (add-zero (record_start i))) ∙ sym (get_or-drop (record_start i) s 0 0) ∙ ap (λ (x : List ℕ). get_or x 0 0) r.1

  row_here : (i : ℕ) → i < set.count → row_at s i ≡ row_in set i
  unfolding row_at
  row_here i l =
      let r = record_here i l in
      let e : record_start i + 1 ≡ row_start i = omega arith in
      let d : drop (row_start i) s ≡ drop 1 (record_bytes (row_in set i) ++ r.0) =
      ap (λ (k : ℕ). drop k s) (sym e) ∙ sym (drop-drop 1 (record_start i) s) ∙ ap (λ (x : List ℕ). drop 1 x) r.1 in
      ap (λ (x : List ℕ). row_of (take 17 x)) d ∙ row_back _ _ _ r.0 (row_ranges i l)

  before_here : (i : ℕ) → i < set.count → before (row_at s) i ≡ before (row_in set) i
  before_here zero l = refl
  before_here (suc i) l = ap (λ (r : Row). r.processor) (row_here i (omega (arith, l)))

  head_processors : processors_of s ≡ set.processors
  unfolding s sheet_of
  head_processors = refl

  head_count : count_of s ≡ set.count
  unfolding s sheet_of
  head_count = refl

  record_clear : (i : ℕ) → i < set.count → record_fault s i ≡ 0
  unfolding set_row_fault
  record_clear i l =
      reading.record_row s i (length_here i l)
      ∙ cc (head_processors, before_here i l, row_here i l)
      ∙ writing.set_rows set h i l

  set_back : set_of s ≡ trimmed set
  unfolding set_of s sheet_of
  set_back =
      ap (λ (l : List Row). record { processors = set.processors; count = set.count; rows = l })
      (padded_same (row_at s) (row_in set) zero_row 32 set.count row_here)

  -- Writing a set that the writer takes and reading those bytes back gives the set with rows past n zeroed.
  pub write_read : read_sheet (sheet_of set) ≡ record { refusal = Ok tt; set = trimmed set }
  unfolding s
  write_read =
      let clear = faults.clear_to (record_fault s) (count_of s) (λ i l. record_clear i (omega (arith, l, head_count))) (count_of s) (omega arith) in
      sym (reading.read_accepted s (ap (λ (r : Refusal). r.number) (sym (reading.none_refused s (count_of s) clear_header clear (omega arith)))))
      ∙ ap (λ (x : Set). record { refusal = Ok tt; set = x }) set_back

-- The first k elements, one by one.
take_tab : (k : ℕ) (l : List ℕ) → k ≤ length l → take k l ≡ tab k (λ i. get_or l i 0)
take_tab k l h = is_tab k (λ i. get_or l i 0) 0 (take k l) (length-take-le k l h) (λ i g. get_or-take k l i 0 g)

-- Four bytes are those of their number.
bytes_back : (a b c d : ℕ) → a < 256 → b < 256 → c < 256 → d < 256
    → word_bytes (a * 16777216 + b * 65536 + c * 256 + d) ≡ a ∷ b ∷ c ∷ d ∷ []
bytes_back a b c d ha hb hc hd =
    let x : ℕ = a * 16777216 + b * 65536 + c * 256 + d in
    let p : x / 16777216 % 256 ≡ a = omega arith in
    let q : x / 65536 % 256 ≡ b = omega arith in
    let r : x / 256 % 256 ≡ c = omega arith in
    let t : x % 256 ≡ d = omega arith in
    λ j. p j ∷ q j ∷ r j ∷ t j ∷ []

-- Eighteen bytes, the first of them 17, are the record of the row that the others say.
record_back : (g : ℕ → ℕ) → ((j : ℕ) → g j < 256) → g 0 ≡ 17 → record_bytes (row_of (tab 17 (λ j. g (1 + j)))) ≡ tab 18 g
unfolding row_of word_at tab_from
record_back g b e =
    let m = bytes_back (g 2) (g 3) (g 4) (g 5) (b 2) (b 3) (b 4) (b 5) in
    let c = bytes_back (g 6) (g 7) (g 8) (g 9) (b 6) (b 7) (b 8) (b 9) in
    let t = bytes_back (g 10) (g 11) (g 12) (g 13) (b 10) (b 11) (b 12) (b 13) in
    let d = bytes_back (g 14) (g 15) (g 16) (g 17) (b 14) (b 15) (b 16) (b 17) in
    λ j. sym e j ∷ g 1 ∷ m j ++ (c j ++ (t j ++ d j))

records_same : (f g : ℕ → Row) (n : ℕ) → ((i : ℕ) → i < n → f i ≡ g i) → records_of f n ≡ records_of g n
records_same f g zero h = refl
records_same f g (suc n) h = ap₂ (λ (l : List ℕ) (r : Row). l ++ record_bytes r) (records_same f g n (λ i l. h i (omega (arith, l)))) (h n (omega arith))

-- A sheet of bytes that reads.
module _ (s : List ℕ) (bytes : (i : ℕ) → get_or s i 0 < 256) (h : (read_refusal s).number ≡ 0) where
  all : reading.Reads s
  all = reading.reads s h

  record_is : (i : ℕ) → i < count_of s → record_bytes (row_at s i) ≡ take 18 (drop (record_start i) s)
  unfolding row_at
  record_is i l =
      let w = all.head.whole in
      let x : List ℕ = drop (record_start i) s in
      let k : 18 ≤ length x = omega (arith, length-drop (record_start i) s) in
      let k1 : 17 ≤ length (drop 1 x) = omega (arith, length-drop 1 x) in
      let e : record_start i + 1 ≡ row_start i = omega arith in
      let d : drop (row_start i) s ≡ drop 1 x = ap (λ (m : ℕ). drop m s) (sym e) ∙ sym (drop-drop 1 (record_start i) s) in
      let a : (j : ℕ) → get_or x j 0 ≡ get_or s (record_start i + j) 0 = λ j. get_or-drop (record_start i) s j 0 in
      let z : get_or x 0 0 ≡ 17 = a 0 ∙ ap (λ (m : ℕ). get_or s m 0) (add-zero (record_start i)) ∙ all.lengths i l in
      ap (λ (y : List ℕ). record_bytes (row_of (take 17 y))) d
      ∙ ap (λ (y : List ℕ). record_bytes (row_of y)) (take_tab 17 (drop 1 x) k1 ∙ tab_same 17 _ (λ j. get_or x (1 + j) 0) 0 (λ j q. get_or-drop 1 x j 0))
      ∙ record_back (λ j. get_or x j 0) (λ j. omega (arith, a j, bytes (record_start i + j))) z
      ∙ sym (take_tab 18 x k)

  records_are : (k : ℕ) → k ≤ count_of s → records_of (row_at s) k ≡ take (18 * k) (drop 5 s)
  records_are zero l = refl
  records_are (suc k) l =
      let e : 18 * suc k ≡ 18 * k + 18 = omega arith in
      ap₂ (λ (x y : List ℕ). x ++ y) (records_are k (omega (arith, l))) (record_is k l ∙ ap (λ (y : List ℕ). take 18 y) (sym (drop-drop (18 * k) 5 s)))
      ∙ sym (take-add (18 * k) 18 (drop 5 s))
      ∙ ap (λ (m : ℕ). take m (drop 5 s)) (sym e)

  header_is : header_bytes (processors_of s) (count_of s) ≡ take 5 s
  unfolding tab_from
  header_is =
      let g = all.head in
      let v = g.version in
      let b1 = bytes 1 in
      let b2 = bytes 2 in
      let hi : length_for (count_of s) / 256 ≡ get_or s 1 0 = omega arith in
      let lo : length_for (count_of s) % 256 ≡ get_or s 2 0 = omega arith in
      let p : header_bytes (processors_of s) (count_of s) ≡ tab 5 (λ i. get_or s i 0) = λ j. sym v j ∷ hi j ∷ lo j ∷ processors_of s ∷ count_of s ∷ [] in
      p ∙ sym (take_tab 5 s g.long)

  records_all : records_of (row_in (set_of s)) (count_of s) ≡ drop 5 s
  records_all =
      let w = all.head.whole in
      records_same _ _ (count_of s) (λ i l. reading.row_in_lem s i all.head.rows l)
      ∙ records_are (count_of s) (omega arith)
      ∙ take_all (18 * count_of s) (drop 5 s) (omega (arith, length-drop 5 s))

  sheet_back : sheet_of (set_of s) ≡ s
  unfolding sheet_of set_of
  sheet_back = ap₂ (λ (x y : List ℕ). x ++ y) header_is records_all ∙ take-append-drop 5 s

  -- The writer takes every set that was read.
  pub read_taken : set_refusal (set_of s) ≡ accepted
  read_taken = well_formed_taken (set_of s) (reading.well_formed s h)

  -- Writing a set that was read gives the sheet's bytes, and then what the buffer held.
  pub read_write : (buffer : List ℕ) → length s ≤ length buffer → written (set_of s) buffer ≡ s ++ drop (length s) buffer
  unfolding set_of
  read_write buffer l =
      let w = all.head.whole in
      let z : (set_refusal (set_of s)).number ≡ 0 = ap (λ (r : Refusal). r.number) read_taken in
      sym (writing.write_done (set_of s) buffer z (omega arith)).buffer ∙ ap₂ (λ (x : List ℕ) (k : ℕ). x ++ drop k buffer) sheet_back (sym w)

-- What the writer leaves in a buffer, read back.
pub written_read : (set : Set) (buffer : List ℕ) → (write_refusal set (length buffer)).number ≡ 0
    → read_sheet (take (length_for set.count) (written set buffer)) ≡ record { refusal = Ok tt; set = trimmed set }
unfolding write_refusal
written_read set buffer h =
    let p = faults.both_accept (set_refusal set) _ h in
    let room = ltb-false _ _ (past _ _ _ p.1).0 in
    let e = (writing.write_done set buffer p.0 room).buffer in
    ap (λ (x : List ℕ). read_sheet (take (length_for set.count) x)) (sym e)
    ∙ ap read_sheet (take_at (sheet_of set) _ (length_for set.count) (size set p.0))
    ∙ write_read set p.0
