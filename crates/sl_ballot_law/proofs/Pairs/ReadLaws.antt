-- What reads give.
use Rattle.sl_ballot_law.proofs.Pairs.MoveLaws.{Moves, New, Same, Torn, back_moves, from_on, front_moves, run_grows}
use Rattle.sl_ballot_law.proofs.Pairs.StepLaws.{alternate, block_at, each_moment, later_first, later_none, later_second}
use Rattle.sl_ballot_law.specs.Pairs.Invariant.{Invariant, base_sector, other_sector}
use Rattle.sl_ballot_law.specs.Pairs.Reads.{Stood, merged}
use Rattle.sl_ballot_law.specs.Pairs.State.{State, Stored, current, is_first, later}
use Rattle.sl_ballot_law.specs.Pairs.Steps.{Answers_failed, Answers_ok, Begins, Drops, IsRun, Lands, Looks, Stays, Step, Submits, Tears}
use Rattle.sl_ballot_law.specs.Pairs.Theorems.{NoneIsTorn, OnceIsRegister, OwnReadIsCurrent, QuietIsShown, StoodIsNewest, TwiceIsRegister}
use Rattle.sl_words.proofs.CaseLaws.{none_some, not_both, one_value, some_value, true_is_false}
use Rattle.std.proofs.Common.{Bool, None, Option, Some, ap, arith, false, inl, inr, refl, subst, sym, true, ℕ, ◌+◌, ◌<◌, ◌∙◌, ◌≡◌, ◌≤◌, ◌⊎◌}
use Rattle.std.proofs.lemmas.Bool.{cases_lt}
use Rattle.std.specs.Prelude.{if◌then◌else◌, not}

-- ---- parity

-- The first sector has odd turns, the second even ones.
abbrev OfSector : Bool → Option Stored → Type 0
OfSector p o = (x : Stored) → o ≡ Some x → is_first x.turn ≡ p

odd_or_even : (n t : ℕ) → t + 1 ≡ n → is_first n ≡ not (is_first t)
odd_or_even n t e = subst (λ (x : ℕ). is_first x ≡ not (is_first t)) e (alternate t)

unnot : (p q : Bool) → p ≡ not q → q ≡ not p
unnot true true e = e
unnot true false e = refl
unnot false true e = refl
unnot false false e = e

beside_parity : (known t : ℕ) → (A : Type 0) → (t + 1 ≡ known) ⊎ ((t ≡ known + 1) × A) → is_first t ≡ not (is_first known)
beside_parity known t A (inl e) = unnot (is_first known) (is_first t) (odd_or_even known t e)
beside_parity known t A (inr e) = subst (λ (x : ℕ). is_first x ≡ not (is_first known)) (sym e.0) (alternate known)

module _ (w : State) (i : Invariant w) where
  base_parity : (x : Stored) → base_sector w ≡ Some x → is_first x.turn ≡ is_first w.known
  base_parity x e =
      let same : i.base ≡ x = one_value i.base x (base_sector w) i.stands e in
      subst (λ (y : Stored). is_first y.turn ≡ is_first w.known) same (ap (λ (n : ℕ). is_first n) i.turn)

  other_parity : (x : Stored) → other_sector w ≡ Some x → is_first x.turn ≡ not (is_first w.known)
  other_parity x e = beside_parity w.known x.turn (w.ok ≤ x.write) (i.other x e).0

both_parities : (p : Bool) (f b : Option Stored) → ((x : Stored) → (if p then f else b) ≡ Some x → is_first x.turn ≡ p)
    → ((x : Stored) → (if p then b else f) ≡ Some x → is_first x.turn ≡ not p) → OfSector true f × OfSector false b
both_parities true f b s o = (s, o)
both_parities false f b s o = (o, s)

parities : (w : State) → Invariant w → OfSector true w.front × OfSector false w.back
parities w i = both_parities (is_first w.known) w.front w.back (base_parity w i) (other_parity w i)

-- So two valid sectors have different turns, also at different moments.
apart : (x y : Stored) → is_first x.turn ≡ true → is_first y.turn ≡ false → x.turn ≡ y.turn → ⊥
apart x y p q e = not_both (is_first x.turn) p (ap (λ (n : ℕ). is_first n) e ∙ q)

-- ---- moments

wider : (r : ℕ → State) (x : Stored) (a b c d : ℕ) → c ≤ a → b ≤ d → Stood r x a b → Stood r x c d
wider r x a b c d l m s = (let p = s.since in let q = s.until in record { moment = s.moment; since = omega arith; until = omega arith; stood = s.stood })

stands_at : (r : ℕ → State) (x : Stored) (a m : ℕ) → a ≤ m → current (r m) ≡ Some x → Stood r x a m
stands_at r x a m l e = record { moment = m; since = l; until = omega arith; stood = e }

-- ---- valid turns of the second sector don't fall

abbrev AtLeast : ℕ → State → Type 0
AtLeast t w = (t ≤ w.known + 1) × ((z : Stored) → w.back ≡ Some z → t ≤ z.turn)

at_least_moved : (t : ℕ) (w v : State) → AtLeast t w → w.known ≤ v.known → Moves w v w.back v.back → AtLeast t v
at_least_moved t w v p g (Same e) = let l = p.0 in (omega (arith, g, l), λ z f. p.1 z (sym e ∙ f))
at_least_moved t w v p g (Torn e) = let l = p.0 in (omega (arith, g, l), λ z f. absurd (none_some z (sym e ∙ f)))
at_least_moved t w v p g (New x e c n) =
    let l = p.0 in
    (omega (arith, g, l), λ z f. (let same : x.turn ≡ z.turn = ap (λ (y : Stored). y.turn) (one_value x z v.back e f) in omega (arith, same, n, l)))

within_next : (known ok : ℕ) (base : Stored) → base.turn ≡ known → (x : Stored) → (p : Bool) → (f b : Option Stored) → (if p then f else b) ≡ Some base
    → ((y : Stored) → (if p then b else f) ≡ Some y → y.turn ≤ known + 1) → b ≡ Some x → x.turn ≤ known + 1
within_next known ok base t x true f b s o e = o x e
within_next known ok base t x false f b s o e = let same : base.turn ≡ x.turn = ap (λ (y : Stored). y.turn) (one_value base x b s e) in omega (arith, same, t)

back_within : (w : State) → Invariant w → (x : Stored) → w.back ≡ Some x → x.turn ≤ w.known + 1
back_within w i x e =
    within_next w.known w.ok i.base i.turn x (is_first w.known) w.front w.back i.stands (λ y q. small w.known y.turn (w.ok ≤ y.write) (i.other y q).0) e
  where
    small : (known t : ℕ) → (A : Type 0) → (t + 1 ≡ known) ⊎ ((t ≡ known + 1) × A) → t ≤ known + 1
    small known t A (inl p) = omega (arith, p)
    small known t A (inr p) = let q = p.0 in omega (arith, q)

back_rises : (r : ℕ → State) → IsRun r → (a : ℕ) (x : Stored) → (r a).back ≡ Some x → (m : ℕ) → a ≤ m → (z : Stored) → (r m).back ≡ Some z → x.turn ≤ z.turn
back_rises r u a x e m l = (from_on (λ m. AtLeast x.turn (r m)) a
    (back_within (r a) (each_moment r u a) x e, λ z f. (let same : x.turn ≡ z.turn = ap (λ (y : Stored). y.turn) (one_value x z (r a).back e f) in omega (arith, same)))
    (λ n k p. at_least_moved x.turn (r n) (r (n + 1)) p (run_grows r u n (n + 1) (omega arith)).known (back_moves (r n) (r (n + 1)) (each_moment r u n) (u.step n)))
    m l).1

-- ---- one answer

-- A block in the second sector stood since the moment a, or was the older one then.
abbrev BackStood : (ℕ → State) → ℕ → ℕ → Type 0
BackStood r a m = (y : Stored) → (r m).back ≡ Some y → Stood r y a m ⊎ ((x : Stored) × ((r a).front ≡ Some x) × (y.turn < x.turn))

back_start : (r : ℕ → State) (a : ℕ) (y : Stored) → (r a).back ≡ Some y → (o : Option Stored) → (r a).front ≡ o
    → Stood r y a a ⊎ ((x : Stored) × ((r a).front ≡ Some x) × (y.turn < x.turn))
back_start r a y e None f =
    inl (stands_at r y a a (omega arith) (ap (λ (o : Option Stored). later o (r a).back) f ∙ ap (λ (o : Option Stored). later None o) e))
back_start r a y e (Some x) f = elim (cases_lt y.turn x.turn) [
  | inl lt ↦ inr (x, f, lt)
  | inr ge ↦ inl (stands_at r y a a (omega arith)
      (ap (λ (o : Option Stored). later o (r a).back) f ∙ (ap (λ (o : Option Stored). later (Some x) o) e ∙ later_second x y ge)))
]

back_stood_moved : (r : ℕ → State) (a m : ℕ) → a ≤ m → BackStood r a m → Moves (r m) (r (m + 1)) (r m).back (r (m + 1)).back → BackStood r a (m + 1)
back_stood_moved r a m l p (Same e) y f = elim (p y (sym e ∙ f)) [
  | inl s ↦ inl (wider r y a m a (m + 1) (omega arith) (omega arith) s)
  | inr q ↦ inr q
]
back_stood_moved r a m l p (Torn e) y f = absurd (none_some y (sym e ∙ f))
back_stood_moved r a m l p (New x e c n) y f = inl (stands_at r y a (m + 1) (omega arith) (c ∙ (sym e ∙ f)))

back_stood : (r : ℕ → State) → IsRun r → (a m : ℕ) → a ≤ m → BackStood r a m
back_stood r u a = from_on (BackStood r a) a (λ y e. back_start r a y e (r a).front refl)
    (λ m l p. back_stood_moved r a m l p (back_moves (r m) (r (m + 1)) (each_moment r u m) (u.step m)))

-- The first sector's block, where the second has an older one later.
front_first : (r : ℕ → State) → IsRun r → (a b : ℕ) → a ≤ b → (x y : Stored) → (r a).front ≡ Some x → (r b).back ≡ Some y → y.turn < x.turn
    → (o : Option Stored) → (r a).back ≡ o → Stood r x a b
front_first r u a b l x y f e lt None n =
    wider r x a a a b (omega arith) l (stands_at r x a a (omega arith) (ap (λ (o : Option Stored). later (r a).front o) n ∙ (later_none (r a).front ∙ f)))
front_first r u a b l x y f e lt (Some z) n =
    let low = back_rises r u a z n b l y e in
    wider r x a a a b (omega arith) l (stands_at r x a a (omega arith)
    (ap (λ (o : Option Stored). later (r a).front o) n ∙ (ap (λ (o : Option Stored). later o (Some z)) f ∙ later_first x z (omega (arith, low, lt)))))

once_by : (r : ℕ → State) → IsRun r → (a b : ℕ) → a ≤ b → (y : Stored) → (r b).back ≡ Some y → (o : Option Stored) → (r a).front ≡ o
    → (x : Stored) × (later o (Some y) ≡ Some x) × Stood r x a b
once_by r u a b l y e None f = (y, refl, elim (back_stood r u a b l y e) [ inl s ↦ s | inr q ↦ absurd (none_some q.0 (sym f ∙ q.1)) ])
once_by r u a b l y e (Some x) f = elim (cases_lt y.turn x.turn) [
  | inl lt ↦ (x, later_first x y lt, front_first r u a b l x y f e lt (r a).back refl)
  | inr ge ↦ (
    y,
    later_second x y ge,
    elim (back_stood r u a b l y e) [
      | inl s ↦ s
      | inr q ↦ absurd (let same : x.turn ≡ q.0.turn = ap (λ (z : Stored). z.turn) (one_value x q.0 (r a).front f q.1) in let less = q.2 in omega (arith, same, less, ge))
    ],
  )
]

pub once : OnceIsRegister
once r u a b l y e =
    let p = once_by r u a b l y e (r a).front refl in
    (p.0, ap (λ (o : Option Stored). later (r a).front o) e ∙ p.1, p.2)

-- ---- two answers

-- Where the second sector had nothing that is as new, what the first has later was the pair's block.
abbrev Older : Option Stored → Stored → Type 0
Older o x = (y : Stored) → o ≡ Some y → y.turn < x.turn

abbrev FrontStood : (ℕ → State) → ℕ → ℕ → Type 0
FrontStood r b m = (x : Stored) → (r m).front ≡ Some x → Older (r b).back x → Stood r x b m

front_start : (r : ℕ → State) (b : ℕ) (x : Stored) → (r b).front ≡ Some x → (o : Option Stored) → (r b).back ≡ o → Older o x → Stood r x b b
front_start r b x f None n old = stands_at r x b b (omega arith) (ap (λ (o : Option Stored). later (r b).front o) n ∙ (later_none (r b).front ∙ f))
front_start r b x f (Some y) n old = stands_at r x b b (omega arith)
    (ap (λ (o : Option Stored). later (r b).front o) n ∙ (ap (λ (o : Option Stored). later o (Some y)) f ∙ later_first x y (old y refl)))

front_stood_moved : (r : ℕ → State) (b m : ℕ) → b ≤ m → FrontStood r b m → Moves (r m) (r (m + 1)) (r m).front (r (m + 1)).front → FrontStood r b (m + 1)
front_stood_moved r b m l p (Same e) x f old = wider r x b m b (m + 1) (omega arith) (omega arith) (p x (sym e ∙ f) old)
front_stood_moved r b m l p (Torn e) x f old = absurd (none_some x (sym e ∙ f))
front_stood_moved r b m l p (New y e c n) x f old = stands_at r x b (m + 1) (omega arith) (c ∙ (sym e ∙ f))

front_stood : (r : ℕ → State) → IsRun r → (b m : ℕ) → b ≤ m → FrontStood r b m
front_stood r u b = from_on (FrontStood r b) b (λ x f old. front_start r b x f (r b).back refl old)
    (λ m l p. front_stood_moved r b m l p (front_moves (r m) (r (m + 1)) (each_moment r u m) (u.step m)))

-- What later takes is one of the two.
one_of : (p q : Stored) → (later (Some p) (Some q) ≡ Some p) ⊎ ((later (Some p) (Some q) ≡ Some q) × (p.turn ≤ q.turn))
one_of p q = elim (cases_lt q.turn p.turn) [ inl lt ↦ inl (later_first p q lt) | inr ge ↦ inr (later_second p q ge, ge) ]

not_older : (o : Option Stored) (y x : Stored) → later o (Some y) ≡ Some x → y.turn ≤ x.turn
not_older None y x e = let same : y.turn ≡ x.turn = ap (λ (z : Stored). z.turn) (some_value y x e) in omega (arith, same)
not_older (Some p) y x e = elim (one_of p y) [
  | inl f ↦ elim (cases_lt y.turn p.turn) [
    | inl lt ↦ (let same : p.turn ≡ x.turn = ap (λ (z : Stored). z.turn) (some_value p x (sym f ∙ e)) in omega (arith, same, lt))
    | inr ge ↦ (let same : y.turn ≡ x.turn = ap (λ (z : Stored). z.turn) (some_value y x (sym (later_second p y ge) ∙ e)) in omega (arith, same))
  ]
  | inr f ↦ (let same : y.turn ≡ x.turn = ap (λ (z : Stored). z.turn) (some_value y x (sym f.0 ∙ e)) in omega (arith, same))
]

module _ (r : ℕ → State) (u : IsRun r) (a b c d : ℕ) (la : a ≤ b) (lb : b ≤ c) (lc : c ≤ d) where
  -- the second answer alone
  after_torn : (x : Stored) → (r b).back ≡ None → (o : Option Stored) → (r d).back ≡ o → later (r c).front o ≡ Some x → Stood r x a d
  after_torn x n None e g =
      wider r x b c a d la lc (front_stood r u b c lb x (sym (later_none (r c).front) ∙ g) (λ y f. absurd (none_some y (sym n ∙ f))))
  after_torn x n (Some y) e g =
      let p = once_by r u c d lc y e (r c).front refl in
      let same : p.0 ≡ x = some_value p.0 x (sym p.1 ∙ g) in
      wider r x c d a d (omega arith) (omega arith) (subst (λ (z : Stored). Stood r z c d) same p.2)

  -- both
  front_alone : (x p y : Stored) → (r b).back ≡ Some y → y.turn ≤ p.turn → Stood r p a b → (o : Option Stored) → (r c).front ≡ o
      → later (Some p) o ≡ Some x → Stood r x a d
  front_alone x p y f low s None e g = wider r x a b a d (omega arith) (omega arith) (subst (λ (z : Stored). Stood r z a b) (some_value p x g) s)
  front_alone x p y f low s (Some q) e g = elim (one_of p q) [
    | inl h ↦ wider r x a b a d (omega arith) (omega arith) (subst (λ (z : Stored). Stood r z a b) (some_value p x (sym h ∙ g)) s)
    | inr h ↦
        let same : q ≡ x = some_value q x (sym h.0 ∙ g) in
        let more = h.1 in
        let odd = (parities (r c) (each_moment r u c)).0 q e in
        let even = (parities (r b) (each_moment r u b)).1 y f in
        let differ : q.turn ≡ y.turn → ⊥ = apart q y odd even in
        subst (λ (z : Stored). Stood r z a d) same
        (wider r q b c a d la lc (front_stood r u b c lb q e (λ z k. (
        let its : y.turn ≡ z.turn = ap (λ (v : Stored). v.turn) (one_value y z (r b).back f k) in
        subst (λ (n : ℕ). n < q.turn) its (strict y.turn q.turn (omega (arith, low, more)) (λ n. differ (sym n)))
        ))))
  ]
    where
      strict : (m n : ℕ) → m ≤ n → (m ≡ n → ⊥) → m < n
      strict m n l differ = elim (cases_lt m n) [ inl lt ↦ lt | inr ge ↦ absurd (differ (let e : m ≡ n = omega (arith, ge, l) in e)) ]

  after_whole : (x p y : Stored) → (r b).back ≡ Some y → y.turn ≤ p.turn → Stood r p a b → (o : Option Stored) → (r d).back ≡ o
      → later (Some p) (later (r c).front o) ≡ Some x → Stood r x a d
  after_whole x p y f low s None e g =
      front_alone x p y f low s (r c).front refl (sym (ap (λ (o : Option Stored). later (Some p) o) (later_none (r c).front)) ∙ g)
  after_whole x p y f low s (Some z) e g =
      let q = once_by r u c d lc z e (r c).front refl in
      let h : later (Some p) (Some q.0) ≡ Some x = sym (ap (λ (o : Option Stored). later (Some p) o) q.1) ∙ g in
      elim (one_of p q.0) [
        | inl k ↦ wider r x a b a d (omega arith) (omega arith) (subst (λ (v : Stored). Stood r v a b) (some_value p x (sym k ∙ h)) s)
        | inr k ↦ wider r x c d a d (omega arith) (omega arith) (subst (λ (v : Stored). Stood r v c d) (some_value q.0 x (sym k.0 ∙ h)) q.2)
      ]

  by_first : (x : Stored) → (o : Option Stored) → (r b).back ≡ o → merged (r a).front o (r c).front (r d).back ≡ Some x → Stood r x a d
  by_first x None e g = after_torn x e (r d).back refl g
  by_first x (Some y) e g =
      let p = once_by r u a b la y e (r a).front refl in
      after_whole x p.0 y e (not_older (r a).front y p.0 p.1) p.2 (r d).back refl
      (sym (ap (λ (o : Option Stored). later o (later (r c).front (r d).back)) p.1) ∙ g)

pub twice : TwiceIsRegister
twice r u a b c d la lb lc x g = by_first r u a b c d la lb lc x (r b).back refl g

-- ---- what stood is new enough

pub stood_newest : StoodIsNewest
stood_newest r u x a b s begun ended l m =
    let k = s.moment in
    let h = block_at (r k) (each_moment r u k) in
    let same : h.block ≡ x = one_value h.block x (current (r k)) h.stands s.stood in
    let since = s.since in
    let until = s.until in
    let first = (run_grows r u begun k (omega arith)).ok in
    let last = (run_grows r u k ended (omega arith)).last in
    let low = h.newest in
    let high = h.written in
    (subst (λ (y : Stored). (r begun).ok ≤ y.write) same (omega (arith, first, low)), subst (λ (y : Stored). y.write ≤ (r ended).last) same (omega (arith, last, high)))

-- ---- no block

none_later : (p q : Option Stored) → later p q ≡ None → (p ≡ None) × (q ≡ None)
none_later None q e = (refl, e)
none_later (Some p) None e = (e, refl)
none_later (Some p) (Some q) e = elim (one_of p q) [ inl f ↦ absurd (none_some p (sym e ∙ f)) | inr f ↦ absurd (none_some q (sym e ∙ f.0)) ]

none_merged : (a b c d : Option Stored) → merged a b c d ≡ None → (b ≡ None) × (c ≡ None) × (d ≡ None)
none_merged a None c d e = let p = none_later c d e in (refl, p.0, p.1)
none_merged a (Some y) c d e =
    let p = none_later (later a (Some y)) (later c d) e in
    let q = none_later a (Some y) p.0 in
    absurd (none_some y (sym q.1))

pub none_torn : NoneIsTorn
none_torn r a b c d e = none_merged (r a).front (r b).back (r c).front (r d).back e

-- ---- a quiet pair

pub record IsQuiet (w v : State) : Type 0 where
  pub front : v.front ≡ w.front
  pub back : v.back ≡ w.back
  pub flying : v.flying ≡ false

module _ (w u v : State) (q : IsQuiet w u) where
  quiet_same : v.front ≡ u.front → v.back ≡ u.back → v.flying ≡ false → IsQuiet w v
  quiet_same f b g = record { front = f ∙ q.front; back = b ∙ q.back; flying = g }

  flies : u.flying ≡ true → ⊥
  flies f = true_is_false (sym f ∙ q.flying)

  quiet_step : Step u v → v.last ≡ u.last → IsQuiet w v
  quiet_step (Stays e) n = quiet_same (ap (λ (x : State). x.front) e) (ap (λ (x : State). x.back) e) (ap (λ (x : State). x.flying) e ∙ q.flying)
  quiet_step (Submits k s a m e) n = let more : v.last ≡ k = ap (λ (x : State). x.last) e in absurd (omega (arith, more, n, m))
  quiet_step (Lands f e) n = absurd (flies f)
  quiet_step (Tears f e) n = absurd (flies f)
  quiet_step (Drops f e) n = absurd (flies f)
  quiet_step (Answers_ok a l e) n = quiet_same (ap (λ (x : State). x.front) e) (ap (λ (x : State). x.back) e) (ap (λ (x : State). x.flying) e ∙ q.flying)
  quiet_step (Answers_failed a e) n = quiet_same (ap (λ (x : State). x.front) e) (ap (λ (x : State). x.back) e) (ap (λ (x : State). x.flying) e)
  quiet_step (Looks a f s c e) n = quiet_same (ap (λ (x : State). x.front) e) (ap (λ (x : State). x.back) e) (ap (λ (x : State). x.flying) e ∙ q.flying)
  quiet_step (Begins f e) n = quiet_same (ap (λ (x : State). x.front) e) (ap (λ (x : State). x.back) e) (ap (λ (x : State). x.flying) e ∙ q.flying)

pub stays_quiet : (r : ℕ → State) → IsRun r → (c : ℕ) → (r c).flying ≡ false → (m : ℕ) → c ≤ m → (r m).last ≡ (r c).last → IsQuiet (r c) (r m)
stays_quiet r u c f = from_on (λ m. (r m).last ≡ (r c).last → IsQuiet (r c) (r m)) c (λ e. record { front = refl; back = refl; flying = f })
    (λ m l p e. (
    let one = (run_grows r u c m l).last in
    let two = (run_grows r u m (m + 1) (omega arith)).last in
    let n : (r m).last ≡ (r c).last = omega (arith, one, two, e) in
    quiet_step (r c) (r m) (r (m + 1)) (p n) (u.step m) (e ∙ sym n)
    ))

pub quiet_shown : QuietIsShown
quiet_shown r u c d l f e = let q = stays_quiet r u c f d l e in ap (λ (o : Option Stored). later (r c).front o) q.back

pub own_read : OwnReadIsCurrent
own_read r u c a b m la lb lc f e =
    let one = (run_grows r u c a la).last in
    let two = (run_grows r u a b lb).last in
    let three = (run_grows r u b m lc).last in
    let qa = stays_quiet r u c f a la (omega (arith, one, two, three, e)) in
    let qb = stays_quiet r u c f b (omega arith) (omega (arith, one, two, three, e)) in
    let qm = stays_quiet r u c f m (omega arith) e in
    ap (λ (o : Option Stored). later o (r b).back) (qa.front ∙ sym qm.front) ∙ ap (λ (o : Option Stored). later (r m).front o) (qb.back ∙ sym qm.back)
