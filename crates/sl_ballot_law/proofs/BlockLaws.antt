-- The blocks of a host grow.
use Rattle.sl_ballot_law.specs.Ballots.{IsLawful, IsPhase1, Mode_only, Phase, Phase_1, Phase_2}
use Rattle.sl_ballot_law.specs.Disk.{Wrote}
use Rattle.sl_ballot_law.specs.History.{Block, History, Owner}
use Rattle.sl_ballot_law.specs.Theorems.{BlocksGrow, IsBelow}
use Rattle.sl_words.proofs.CaseLaws.{one_value}
use Rattle.sl_words.proofs.OrderLaws.{by_smaller, less_or_same}
use Rattle.std.proofs.Common.{Some, ap, arith, inl, inr, refl, subst, sym, true, ℕ, ◌<◌, ◌∙◌, ◌≡◌, ◌≤◌, ◌⊎◌}
use Rattle.std.proofs.lemmas.Bool.{cases_lt}

-- ---- the order of blocks

pub below_refl : (a : Block) → IsBelow a a
below_refl a = record { lver = omega arith; mbal = λ e. omega arith; bal = λ e. omega arith }

pub below_trans : (a b c : Block) → IsBelow a b → IsBelow b c → IsBelow a c
below_trans a b c p q = record { lver = omega arith; mbal = λ e. omega arith; bal = λ e. omega arith }

-- ---- own blocks

-- The own block was held at first, or is of the host; it was submitted before.
pub base_before : (h : History) → IsLawful h → (e : ℕ) → h.writes e ≡ true → h.base e < e
base_before h i e w = elim (i.ballots.base e w) [
  | inl l ↦ l.before
  | inr f ↦ let early = i.register.earlier f.read (h.writer e).id f.reads f.whole in let at = f.shown in let late = f.before in omega arith
]

pub base_of : (h : History) → IsLawful h → (e : ℕ) → h.writes e ≡ true → (h.base e ≡ 0) ⊎ Wrote h (h.writer e).id (h.base e)
base_of h i e w = elim (i.ballots.base e w) [
  | inl l ↦ inr (record { is = l.writes; host = ap (λ (s : Owner). s.id) l.writer })
  | inr f ↦ elim (i.register.submitted f.read (h.writer e).id f.reads f.whole) [
    | inl z ↦ inl (sym f.shown ∙ z)
    | inr k ↦ inr (subst (λ (x : ℕ). Wrote h (h.writer e).id x) f.shown k)
  ]
]

-- A write is of no instance below the own block's.
abbrev pub Up : History → ℕ → Type 0
Up h e = (h.block (h.base e)).lver ≤ (h.block e).lver

up_phase : (h : History) → IsLawful h → (e : ℕ) → h.writes e ≡ true → Phase h e → Up h e
up_phase h i e w (Phase_1 f) = i.up e w f.one
up_phase h i e w (Phase_2 f) = omega (arith, f.lver)
up_phase h i e w (Mode_only f) = omega (arith, f.lver)

pub up : (h : History) → IsLawful h → (e : ℕ) → h.writes e ≡ true → Up h e
up h i e w = up_phase h i e w (i.ballots.phase e w)

-- A block's bal is at most its mbal.
abbrev Low : History → ℕ → Type 0
Low h e = (h.block e).bal ≤ (h.block e).mbal

low_one : (h : History) (e : ℕ) → (h.block (h.base e)).lver ≤ (h.block e).lver → IsPhase1 h e → Low h (h.base e) → Low h e
low_one h e up o l = elim (cases_lt (h.block (h.base e)).lver (h.block e).lver) [
  | inl lt ↦ let z = o.anew lt in omega arith
  | inr ge ↦ let same : (h.block (h.base e)).lver ≡ (h.block e).lver = omega arith in let m = o.mbal same in let b = o.bal same in omega arith
]

low_phase : (h : History) (e : ℕ) → (h.block (h.base e)).lver ≤ (h.block e).lver → Phase h e → Low h (h.base e) → Low h e
low_phase h e up (Phase_1 f) l = low_one h e up f.one l
low_phase h e up (Phase_2 f) l = omega (arith, f.bal)
low_phase h e up (Mode_only f) l = omega (arith, f.bal, f.mbal)

pub low : (h : History) → IsLawful h → (e : ℕ) → h.writes e ≡ true → Low h e
low h i = by_smaller (λ e. h.writes e ≡ true → Low h e) (λ e before w. low_phase h e (up h i e w) (i.ballots.phase e w) (elim (base_of h i e w) [
  | inl z ↦ subst (λ (x : ℕ). Low h x) (sym z) (omega (arith, i.register.zeros.2))
  | inr k ↦ before (h.base e) (base_before h i e w) k.is
]))

pub low_shown : (h : History) → IsLawful h → (r k : ℕ) → h.reads r ≡ true → h.shows r k ≡ true → Low h (h.shown r k)
low_shown h i at k is shows = elim (i.register.submitted at k is shows) [
  | inl z ↦ subst (λ (x : ℕ). Low h x) (sym z) (omega (arith, i.register.zeros.2))
  | inr w ↦ low h i (h.shown at k) w.is
]

-- The own block is not above what is made from it.
step_one : (h : History) (e : ℕ) → (h.block (h.base e)).lver ≤ (h.block e).lver → IsPhase1 h e → IsBelow (h.block (h.base e)) (h.block e)
step_one h e up o = record { lver = up; mbal = λ same. let m = o.mbal same in omega arith; bal = λ same. omega (arith, o.bal same) }

step_phase : (h : History) (e : ℕ) → (h.block (h.base e)).lver ≤ (h.block e).lver → Phase h e → Low h (h.base e)
    → IsBelow (h.block (h.base e)) (h.block e)
step_phase h e up (Phase_1 f) l = step_one h e up f.one
step_phase h e up (Phase_2 f) l = record { lver = omega (arith, f.lver); mbal = λ same. omega (arith, f.mbal); bal = λ same. omega (arith, f.mbal, f.bal) }
step_phase h e up (Mode_only f) l = record { lver = omega (arith, f.lver); mbal = λ same. omega (arith, f.mbal); bal = λ same. omega (arith, f.bal) }

low_base : (h : History) → IsLawful h → (e : ℕ) → h.writes e ≡ true → Low h (h.base e)
low_base h i e w = elim (base_of h i e w) [
  | inl z ↦ subst (λ (x : ℕ). Low h x) (sym z) (omega (arith, i.register.zeros.2))
  | inr k ↦ low h i (h.base e) k.is
]

pub step : (h : History) → IsLawful h → (e : ℕ) → h.writes e ≡ true → IsBelow (h.block (h.base e)) (h.block e)
step h i e w = step_phase h e (up h i e w) (i.ballots.phase e w) (low_base h i e w)

-- ---- sessions of one host

-- The write of step d counts for the write of step e: it is of its session, or was answered ok.
abbrev pub Counts : History → ℕ → ℕ → Type 0
Counts h d e = (h.writer d ≡ h.writer e) ⊎ ((a : ℕ) × (h.ok d ≡ Some a))

-- Two sessions of one host that write: the same, or all of the first is before the second joins.
pub record IsPast (h : History) (d e : ℕ) : Type 0 where
  pub join : ℕ
  pub joined : h.joined (h.writer e) ≡ Some join
  pub early : d < join
  pub late : join ≤ e
  pub settled : (a : ℕ) → h.ok d ≡ Some a → a ≤ join
  pub over : h.over (h.writer d) join ≡ true

past : (h : History) → IsLawful h → (k d e i j : ℕ) → Wrote h k d → Wrote h k e → h.joined (h.writer d) ≡ Some i
    → h.joined (h.writer e) ≡ Some j → j ≤ e → i < j → IsPast h d e
past h w k d e i j p q ji je late l =
    let over = w.earlier (h.writer d) (h.writer e) i j ji je (p.host ∙ sym q.host) l in
    record {
      join = j;
      joined = je;
      early = w.sessions.silent (h.writer d) j d over p.is refl;
      late = late;
      settled = λ a o. w.sessions.settled (h.writer d) j d a over p.is refl o;
      over = over;
    }

pub sessions : (h : History) → IsLawful h → (k d e : ℕ) → Wrote h k d → Wrote h k e → d < e
    → (h.writer d ≡ h.writer e) ⊎ IsPast h d e
sessions h w k d e p q l =
    let i = w.sessions.writers d p.is in
    let j = w.sessions.writers e q.is in
    elim (cases_lt i.0 j.0) [
      | inl lt ↦ inr (past h w k d e i.0 j.0 p q i.1 j.1 j.2 lt)
      | inr ge ↦ elim (less_or_same j.0 i.0 ge) [
        | inl lt ↦
            let turned = past h w k e d j.0 i.0 q p j.1 i.1 i.2 lt in
            let early = turned.early in
            let late = turned.late in
            absurd (omega arith)
        | inr same ↦ inl (w.sessions.once (h.writer d) (h.writer e) i.0 i.1 (subst (λ (x : ℕ). h.joined (h.writer e) ≡ Some x) same j.1) (p.host ∙ sym q.host))
      ]
    ]

-- ---- growth

pub joined_at : (h : History) (s u : Owner) (i j : ℕ) → s ≡ u → h.joined s ≡ Some i → h.joined u ≡ Some j → i ≡ j
joined_at h s u i j e p q = one_value i j (h.joined u) (subst (λ (x : Owner). h.joined x ≡ Some i) e p) q

-- What counts is of the session itself, or was answered ok before the session joined.
counts_as : (h : History) → IsLawful h → (k d e : ℕ) → Wrote h k d → Wrote h k e → d < e → Counts h d e
    → (h.writer d ≡ h.writer e) ⊎ ((a : ℕ) × (h.ok d ≡ Some a) × IsPast h d e)
counts_as h w k d e p q l (inl same) = inl same
counts_as h w k d e p q l (inr ack) = elim (sessions h w k d e p q l) [ inl same ↦ inl same | inr old ↦ inr (ack.0, ack.1, old) ]

-- What counts for a write reaches its own block.
reaches : (h : History) → IsLawful h → (k d e : ℕ) → Wrote h k d → Wrote h k e → d < e → Counts h d e
    → (d ≤ h.base e) × Counts h d (h.base e)
reaches h i k d e p q l c = elim (counts_as h i k d e p q l c) [
  | inl same ↦ elim (i.ballots.base e q.is) [
    | inl o ↦ (o.last d p.is same l, inl (same ∙ sym o.writer))
    | inr f ↦ absurd (f.first d p.is same l)
  ]
  | inr old ↦
      let a = old.0 in
      let join = old.2.joined in
      let early = old.2.early in
      let settled = old.2.settled a old.1 in (
        elim (i.ballots.base e q.is) [
          | inl o ↦
              let j = i.sessions.writers (h.base e) o.writes in
              let same = joined_at h (h.writer (h.base e)) (h.writer e) j.0 old.2.join o.writer j.1 join in
              let late = j.2 in
              omega arith
          | inr f ↦
              let j = i.sessions.readers f.read f.reads in
              let same = joined_at h (h.reader f.read) (h.writer e) j.0 old.2.join f.reader j.1 join in
              let late = j.2 in
              let mine : Wrote h (h.writer e).id d = record { is = p.is; host = p.host ∙ sym q.host } in
              let seen = i.newest f.read (h.writer e).id d a f.reads f.whole mine old.1 (omega arith) in
              let at = f.shown in
              omega arith
        ],
        inr (a, old.1),
      )
]

base_of_host : (h : History) → IsLawful h → (k e : ℕ) → Wrote h k e → (h.base e ≡ 0) ⊎ Wrote h k (h.base e)
base_of_host h i k e q = elim (base_of h i e q.is) [ inl z ↦ inl z | inr w ↦ inr (record { is = w.is; host = w.host ∙ q.host }) ]

abbrev Grows : History → ℕ → ℕ → Type 0
Grows h k e = (d : ℕ) → Wrote h k d → Wrote h k e → d < e → Counts h d e → IsBelow (h.block d) (h.block e)

grows_base_if : (h : History) → IsLawful h → (k d e : ℕ) → Grows h k (h.base e) → Wrote h k d → Wrote h k e → d < e → Counts h d e
    → IsBelow (h.block d) (h.block (h.base e))
grows_base_if h i k d e before p q l c =
    let at = reaches h i k d e p q l c in
    elim (less_or_same d (h.base e) at.0) [
      | inl lt ↦ elim (base_of_host h i k e q) [ inl z ↦ absurd (omega arith) | inr w ↦ before d p w lt at.1 ]
      | inr same ↦ subst (λ (x : ℕ). IsBelow (h.block d) (h.block x)) same (below_refl (h.block d))
    ]

pub grows : (h : History) → IsLawful h → (k e : ℕ) → Grows h k e
grows h i k = by_smaller (Grows h k) (λ e before d p q l c.
    below_trans (h.block d) (h.block (h.base e)) (h.block e)
    (grows_base_if h i k d e (before (h.base e) (base_before h i e q.is)) p q l c)
    (step h i e q.is))

-- What counts for a write is not above its own block.
pub grows_base : (h : History) → IsLawful h → (k d e : ℕ) → Wrote h k d → Wrote h k e → d < e → Counts h d e
    → IsBelow (h.block d) (h.block (h.base e))
grows_base h i k d e p q l c = grows_base_if h i k d e (grows h i k (h.base e)) p q l c

-- A read submitted after the answer of a write shows no block below it.
pub grows_shown : (h : History) → IsLawful h → (k d a t : ℕ) → Wrote h k d → h.ok d ≡ Some a → h.reads t ≡ true → h.shows t k ≡ true → a ≤ t
    → IsBelow (h.block d) (h.block (h.shown t k))
grows_shown h i k d a t p o is shows l =
    let at = i.newest t k d a is shows p o l in
    elim (less_or_same d (h.shown t k) at) [
      | inl lt ↦ elim (i.register.submitted t k is shows) [ inl z ↦ absurd (omega arith) | inr w ↦ grows h i k (h.shown t k) d p w lt (inr (a, o)) ]
      | inr same ↦ subst (λ (x : ℕ). IsBelow (h.block d) (h.block x)) same (below_refl (h.block d))
    ]

pub blocks_grow : BlocksGrow
blocks_grow h i k d e p q l counts = grows h i k e d p q l counts
