use Prim.Native.Nat.{ℕ, zero, suc, ◌+◌, ◌-◌, ◌≤◌, ◌<◌, max}
use Rattle.std.specs.Prelude.{◌≡◌, true, false, eqb, leb}
use Rattle.std.proofs.Math.Path.{sym}
use Rattle.std.proofs.Common.{ap, subst, ◌∙◌, add-zero, add-suc, suc-add}
use borrow.Author.Tests.{eq-eqb, ne_eqb, le-leb, lt-leb}
use native.Mathlib.Omega.{arith}
use Rattle.std.proofs.Math.Decide.{dec_le, ℕ_discrete}
use Rattle.std.proofs.Math.Arith.{lt_of_le-ne}
use Rattle.std.specs.Prelude.{Option}
use Rattle.std.specs.Prelude.{Some, None}
use Rattle.laws.specs.Least.{solution_from, least}

abbrev pub Mono : (ℕ → ℕ) → Type 0
Mono F = (x y : ℕ) → x ≤ y → F x ≤ F y

-- no solution from a up to below b
abbrev pub NoneIn : (ℕ → ℕ) → ℕ → ℕ → Type 0
NoneIn F a b = (y : ℕ) → a ≤ y → y < b → y ≡ F y → ⊥

-- The climb: from x to F x, and one on where that is no rise. For a monotone F it finds the same as `least`, in few steps.
unfoldable pub climb : (ℕ → ℕ) → ℕ → ℕ → ℕ → Option ℕ
climb F limit zero x = None
climb F limit (suc k) x = elim (leb x limit) [ false ↦ None | true ↦ elim (eqb x (F x)) [ true ↦ Some x | false ↦ climb F limit k (max (F x) (suc x)) ] ]

module _ (F : ℕ → ℕ) (limit : ℕ) where
  -- the three laws that know how `least` is made; all others go by these
  pub least_here : (a : ℕ) → a ≤ limit → a ≡ F a → least F a limit ≡ Some a
  unfolding least solution_from
  least_here a h e =
      let k : suc limit - a ≡ suc (limit - a) = omega arith in
      rw k (rw (eq-eqb a (F a) e, solution_from))

  pub least_past : (a : ℕ) → limit < a → least F a limit ≡ None
  unfolding least solution_from
  least_past a h =
      let k : suc limit - a ≡ 0 = omega arith in
      rw k

  pub least_next : (a : ℕ) → (a ≡ F a → ⊥) → least F a limit ≡ least F (suc a) limit
  unfolding least solution_from
  least_next a n = go (dec_le a limit)
    where
      go : Dec (a ≤ limit) → least F a limit ≡ least F (suc a) limit
      go (yes h) =
          let k : suc limit - a ≡ suc (suc limit - suc a) = omega arith in
          rw k (rw (ne_eqb a (F a) n, solution_from))
      go (no f) = least_past a (omega arith) ∙ sym (least_past (suc a) (omega arith))

  skip : (d a : ℕ) → NoneIn F a (a + d) → least F a limit ≡ least F (a + d) limit
  skip zero a n = rw add-zero
  skip (suc d) a n =
      least_next a (n a (omega arith) (omega arith))
      ∙ skip d (suc a) (λ y h l. n y (omega arith) (omega arith))
      ∙ ap (λ (z : ℕ). least F z limit) (suc-add a d ∙ sym (add-suc a d))

  -- where nothing from a up to b solves it, the search may as well begin at b
  pub least_skip : (a b : ℕ) → a ≤ b → NoneIn F a b → least F a limit ≡ least F b limit
  least_skip a b h n =
      let k : a + (b - a) ≡ b = omega arith in
      skip (b - a) a (λ y g l. n y g (omega arith)) ∙ ap (λ (z : ℕ). least F z limit) k

  -- what solves it, with nothing below that does, is the least
  pub least_is : (a y : ℕ) → a ≤ y → y ≤ limit → y ≡ F y → NoneIn F a y → least F a limit ≡ Some y
  least_is a y h l e n = least_skip a y h n ∙ least_here y l e

  none_more : (a b : ℕ) → (a ≡ F a → ⊥) → NoneIn F (suc a) b → NoneIn F a b
  none_more a b n s z g l e = go (dec_le (suc a) z)
    where
      go : Dec (suc a ≤ z) → ⊥
      go (yes q) = s z q l e
      go (no q) =
          let w : z ≡ a = omega arith in
          n (subst (λ (x : ℕ). x ≡ F x) w e)

  -- what an answer says, from a on
  pub record Solves (a y : ℕ) : Type 0 where
    pub from : a ≤ y
    pub within : y ≤ limit
    pub equal : y ≡ F y
    pub first : NoneIn F a y

  abbrev pub Says : ℕ → Option ℕ → Type 0
  Says a (Some y) = Solves a y
  Says a None = NoneIn F a (suc limit)

  says_more : (a : ℕ) → (a ≡ F a → ⊥) → (o : Option ℕ) → Says (suc a) o → Says a o
  says_more a n (Some y) s = record { from = omega arith; within = s.within; equal = s.equal; first = none_more a y n s.first }
  says_more a n None s = none_more a (suc limit) n s

  says : (k a : ℕ) → suc limit ≤ a + k → Says a (least F a limit)
  says zero a h = rw (least_past a (omega arith)) (λ y g l e. omega arith)
  says (suc k) a h = go (λ (g : a ≤ limit). says k (suc a) (omega arith)) (dec_le a limit) (ℕ_discrete a (F a))
    where
      go : (a ≤ limit → Says (suc a) (least F (suc a) limit)) → Dec (a ≤ limit) → Dec (a ≡ F a) → Says a (least F a limit)
      go r (no f) d = rw (least_past a (omega arith)) (λ y g l e. omega arith)
      go r (yes g) (yes e) = rw (least_here a g e) (record { from = omega arith; within = g; equal = e; first = λ z g l e. omega arith })
      go r (yes g) (no n) = rw (least_next a n) (says_more a n (least F (suc a) limit) (r g))

  -- what the answer of `least` says
  pub least_says : (a : ℕ) → Says a (least F a limit)
  least_says a = says (suc limit) a (omega arith)

  pub least_at : (a y : ℕ) → least F a limit ≡ Some y → Solves a y
  least_at a y e = subst (Says a) e (least_says a)

  pub least_none : (a : ℕ) → least F a limit ≡ None → NoneIn F a (suc limit)
  least_none a e = subst (Says a) e (least_says a)

  -- a turn of the code's loop: x is not above F x, and the search from a is the search from x
  pub record Climbs (a x : ℕ) : Type 0 where
    pub same : least F a limit ≡ least F x limit
    pub rises : x ≤ F x

  pub climb_found : (a x y : ℕ) → Climbs a x → y ≡ F x → y ≡ x → x ≤ limit → least F a limit ≡ Some x
  climb_found a x y c e q h = c.same ∙ least_here x h (sym q ∙ e)

  pub climb_past : (a x : ℕ) → Climbs a x → limit < x → least F a limit ≡ None
  climb_past a x c h = c.same ∙ least_past x h

  module _ (mono : Mono F) where
    -- a number that F raises is passed, with all up to what it is raised to
    pub none_below : (a : ℕ) → NoneIn F (suc a) (F a)
    none_below a y g l e = omega (arith, mono a y (omega arith))

    pub least_jump : (a : ℕ) → a < F a → least F a limit ≡ least F (F a) limit
    least_jump a h =
        least_next a (λ e. omega arith) ∙ least_skip (suc a) (F a) h (none_below a)

    -- a number that F doesn't raise bounds the least solution, which then exists
    exists : (k a x : ℕ) → a ≤ F a → F x ≤ x → a ≤ x → x ≤ limit → x < a + k → (y : ℕ) × (least F a limit ≡ Some y) × (y ≤ x)
    exists zero a x up pre h l q = absurd (omega arith)
    exists (suc k) a x up pre h l q = go (λ u v. exists k (suc a) x u pre v l (omega arith)) (ℕ_discrete a (F a))
      where
        go : (suc a ≤ F (suc a) → suc a ≤ x → (y : ℕ) × (least F (suc a) limit ≡ Some y) × (y ≤ x)) → Dec (a ≡ F a) → (y : ℕ) × (least F a limit ≡ Some y) × (y ≤ x)
        go r (yes e) = (a, least_here a (omega arith) e, h)
        go r (no n) =
            let m₁ : F a ≤ F (suc a) = mono a (suc a) (omega arith) in
            let m₂ : F a ≤ F x = mono a x h in
            let t = r (omega arith) (omega arith) in
            (t.0, least_next a n ∙ t.1, t.2)

    pub least_exists : (a x : ℕ) → a ≤ F a → F x ≤ x → a ≤ x → x ≤ limit → (y : ℕ) × (least F a limit ≡ Some y) × (y ≤ x)
    least_exists a x up pre h l = exists (suc x) a x up pre h l (omega arith)

    pub least_under : (a y x : ℕ) → least F a limit ≡ Some y → a ≤ F a → F x ≤ x → a ≤ x → y ≤ x
    least_under a y x e up pre h = go (dec_le x limit)
      where
        go : Dec (x ≤ limit) → y ≤ x
        go (yes l) =
            let t = least_exists a x up pre h l in
            let q : y ≡ t.0 = cc t.1 in
            omega (arith, t.2)
        go (no f) = omega (arith, (least_at a y e).within)

    -- a start that the answer for F gives for F raised by d
    pub none_raised : (s d : ℕ) (G : ℕ → ℕ) → ((y : ℕ) → G y ≡ F y + d) → least F 0 limit ≡ Some s → NoneIn G 0 (s + d)
    none_raised s d G g e y h l q =
        let w : y ≡ F y + d = q ∙ g y in
        let m : F (F y) ≤ F y = mono (F y) y (omega arith) in
        omega (arith, least_under 0 s (F y) e (omega arith) m (omega arith))

    pub climb_least : (k a : ℕ) → suc limit ≤ a + k → climb F limit k a ≡ least F a limit
    unfolding climb
    climb_least zero a h = sym (least_past a (omega arith))
    climb_least (suc k) a h = go (λ (g : a ≤ limit). climb_least k (max (F a) (suc a)) (omega arith)) (dec_le a limit) (ℕ_discrete a (F a))
      where
        go : (a ≤ limit → climb F limit k (max (F a) (suc a)) ≡ least F (max (F a) (suc a)) limit) → Dec (a ≤ limit) → Dec (a ≡ F a) → climb F limit (suc k) a ≡ least F a limit
        go r (no f) d = rw (lt-leb a limit (omega arith), climb) (sym (least_past a (omega arith)))
        go r (yes g) (yes e) = rw (le-leb a limit g, eq-eqb a (F a) e, climb) (sym (least_here a g e))
        go r (yes g) (no n) =
            rw (le-leb a limit g, ne_eqb a (F a) n, climb)
            (r g ∙ sym (least_next a n ∙ least_skip (suc a) (max (F a) (suc a)) (omega arith) (λ y u v e. none_below a y u (omega arith) e)))

    -- the loop's next number, y, is F x
    pub climb_on : (a x y : ℕ) → Climbs a x → y ≡ F x → (y ≡ x → ⊥) → Climbs a y × (x < y)
    climb_on a x y c e n =
        let h : x < F x = lt_of_le-ne c.rises (λ q. n (e ∙ sym q)) in
        rw e (record { same = c.same ∙ least_jump x h; rises = mono x (F x) c.rises }, h)
