-- No two sessions have conflicting holdings.
use Rattle.sl_ballot_law.proofs.AgreementLaws.{agreement}
use Rattle.sl_ballot_law.proofs.BlockLaws.{sessions}
use Rattle.sl_ballot_law.proofs.InstanceLaws.{closed_later, closes, ended_before, led_won}
use Rattle.sl_ballot_law.specs.Ballots.{BallotEnded, IsLawful, LeaderSubmitted}
use Rattle.sl_ballot_law.specs.Disk.{Wrote}
use Rattle.sl_ballot_law.specs.Grants.{Grants, IsActive, IsGranted, SharedGranted}
use Rattle.sl_ballot_law.specs.History.{History, Owner}
use Rattle.sl_ballot_law.specs.Instances.{IsClosed, KeepsInstances, No_instance, Winner_freed, Winner_over}
use Rattle.sl_ballot_law.specs.Theorems.{ActiveIsOpen, HoldingsAreActive, MarksAreShown, MarksComeFirst, MarksStay, NoConflict, NoneShares, OneExclusive}
use Rattle.sl_words.proofs.OrderLaws.{less_or_same}
use Rattle.std.proofs.Common.{Some, ap, arith, false, inl, inr, subst, sym, true, ℕ, ◌<◌, ◌∙◌, ◌≡◌, ◌≤◌}
use Rattle.std.proofs.lemmas.Bool.{cases_lt}

-- An instance that was won is above 0.
positive : (h : History) (n : ℕ) (s v : Owner) (t : ℕ) → BallotEnded h s n v t → 0 < n
positive h n s v t b = let p = b.two.one.instance in let q = b.two.lver in let r = b.lver in omega arith

-- ---- exclusive

-- The holding is of an instance that was not freed.
pub held_active : HoldingsAreActive
held_active h x k g t is =
    let p = k.rules.holds g t is in
    let e = k.rules.exclusive g p.0 in
    record {
      granted = p.0;
      since = p.1;
      alive = p.2;
      kept = λ d. elim (cases_lt d.step g) [
        | inl lt ↦ e.unfreed (record { step = d.step; leads = d.leads; before = lt; lver = d.lver; owner = d.owner; held = d.held })
        | inr ge ↦ k.rules.unheld d.step g d.leads d.held d.owner d.lver (k.rules.whole g t d.step is ge (let b = d.before in omega arith))
      ];
    }

pub active_open : (h : History) → IsLawful h → KeepsInstances h → (x : Grants) → IsGranted h x → (g t : ℕ) → IsActive h x g t
    → IsClosed h (x.instance g) t → ⊥
active_open h i q x k g t a (No_instance z) = let p = positive h (x.instance g) (x.holder g) (x.holder g) g (k.rules.exclusive g a.granted).ballot in omega arith
active_open h i q x k g t a (Winner_over s v b over) =
    let same : v ≡ x.holder g = agreement h i (x.instance g) s (x.holder g) v (x.holder g) t g b (k.rules.exclusive g a.granted).ballot in
    a.alive (subst (λ (u : Owner). h.over u t ≡ true) same over)
active_open h i q x k g t a (Winner_freed v d) =
    let same : v ≡ x.holder g = agreement h i (x.instance g) v (x.holder g) v (x.holder g) t g (led_won h q (x.instance g) v false t d) (k.rules.exclusive g a.granted).ballot in
    a.kept (subst (λ (u : Owner). LeaderSubmitted h (x.instance g) u false t) same d)

pub active_bounds : (h : History) → IsLawful h → KeepsInstances h → (x : Grants) → IsGranted h x → (g t : ℕ) → IsActive h x g t → (e : ℕ)
    → h.writes e ≡ true → e ≤ t → (h.block e).lver ≤ x.instance g
active_bounds h i q x k g t a e w l = elim (cases_lt (x.instance g) (h.block e).lver) [
  | inl lt ↦ absurd (active_open h i q x k g t a (closed_later h i.sessions (x.instance g) e t l (closes h i q e w (x.instance g) lt)))
  | inr ge ↦ ge
]

-- A session's ballot that ended bounds the instance of what stands.
won_bounds : (h : History) → IsLawful h → KeepsInstances h → (x : Grants) → IsGranted h x → (g t : ℕ) → IsActive h x g t
    → (n : ℕ) (s v : Owner) (u : ℕ) → BallotEnded h s n v u → u ≤ t → n ≤ x.instance g
won_bounds h i q x k g t a n s v u b l =
    let early = ended_before h i.register n s v u b in
    let at = b.lver in
    let bound = active_bounds h i q x k g t a b.write b.writes (omega arith) in
    omega arith

pub one_exclusive : OneExclusive
one_exclusive h i q x k f g t a b =
    let p = (k.rules.exclusive f a.granted).ballot in
    let r = (k.rules.exclusive g b.granted).ballot in
    let up = won_bounds h i q x k g t b (x.instance f) (x.holder f) (x.holder f) f p a.since in
    let down = won_bounds h i q x k f t a (x.instance g) (x.holder g) (x.holder g) g r b.since in
    let same : x.instance f ≡ x.instance g = omega arith in
    (agreement h i (x.instance g) (x.holder f) (x.holder g) (x.holder f) (x.holder g) f g (subst (λ (n : ℕ). BallotEnded h (x.holder f) n (x.holder f) f) same p) r, same)

-- ---- shared

pub marks_first : MarksComeFirst
marks_first h i q x k g t a e is ok w l lt =
    let p = k.rules.shares g t is in
    let s = k.rules.shared g p.0 in
    go p.0 s (p.2) (closes h i q e w (x.won g) lt)
  where
    go : x.shared g ≡ true → SharedGranted h x g → (h.over (x.sharer g) t ≡ true → ⊥) → IsClosed h (x.won g) e → a < e
    go y s alive (No_instance z) = let p = positive h (x.won g) (x.sharer g) (x.sharer g) g s.ballot in absurd (omega arith)
    go y s alive (Winner_over r v b over) =
        let same : v ≡ x.sharer g = agreement h i (x.won g) r (x.sharer g) v (x.sharer g) e g b s.ballot in
        absurd (alive (i.sessions.final (x.sharer g) e t (subst (λ (u : Owner). h.over u e ≡ true) same over) l))
    go y s alive (Winner_freed v d) =
        let same : v ≡ x.sharer g = agreement h i (x.won g) v (x.sharer g) v (x.sharer g) e g (led_won h q (x.won g) v false e d) s.ballot in
        let early = k.marks g d.step a y d.leads (d.owner ∙ same) d.lver d.held ok in
        let before = d.before in
        omega arith

-- Two sessions of one host that joined and are not over are one.
alive_same : (h : History) → IsLawful h → (s u : Owner) (i j t : ℕ) → h.joined s ≡ Some i → h.joined u ≡ Some j → s.id ≡ u.id → i ≤ t
    → j ≤ t → (h.over s t ≡ true → ⊥) → (h.over u t ≡ true → ⊥) → s ≡ u
alive_same h w s u i j t p q id l m a b = elim (cases_lt i j) [
  | inl lt ↦ absurd (a (w.sessions.final s j t (w.earlier s u i j p q id lt) m))
  | inr ge ↦ elim (less_or_same j i ge) [
    | inl lt ↦ absurd (b (w.sessions.final u i t (w.earlier u s j i q p (sym id) lt) l))
    | inr same ↦ w.sessions.once s u i p (subst (λ (y : ℕ). h.joined u ≡ Some y) same q) id
  ]
]

-- The session that won a ballot joined before.
winner_joined : (h : History) → IsLawful h → (n : ℕ) (s v : Owner) (t : ℕ) → BallotEnded h s n v t
    → (j : ℕ) × (h.joined s ≡ Some j) × (j ≤ t)
winner_joined h i n s v t b =
    let j = i.sessions.writers b.write b.writes in
    let early = ended_before h i.register n s v t b in
    let late = j.2 in
    (j.0, subst (λ (u : Owner). h.joined u ≡ Some j.0) b.writer j.1, omega arith)

-- The block of a host that a read shows after the mark of a session that is not over is of this session.
shown_own : (h : History) → IsLawful h → (s : Owner) (m e t : ℕ) → h.writes m ≡ true → h.writer m ≡ s → Wrote h s.id e → m ≤ e → e ≤ t
    → (h.over s t ≡ true → ⊥) → h.writer e ≡ s
shown_own h i s m e t w is q l late alive = elim (less_or_same m e l) [
  | inl lt ↦ elim (sessions h i s.id m e (record { is = w; host = ap (λ (u : Owner). u.id) is }) q lt) [
    | inl same ↦ sym same ∙ is
    | inr past ↦
        let over : h.over s past.join ≡ true = subst (λ (u : Owner). h.over u past.join ≡ true) is past.over in
        let before = past.late in
        absurd (alive (i.sessions.final s past.join t over (omega arith)))
  ]
  | inr same ↦ ap h.writer (sym same) ∙ is
]

-- .. and of the same host it is of the same session.
not_below : (h : History) → IsLawful h → KeepsInstances h → (x : Grants) → IsGranted h x → (f g t : ℕ) → IsActive h x f t
    → x.shares g t ≡ true → x.won g < x.instance f → (x.holder f).id ≡ (x.sharer g).id → x.holder f ≡ x.sharer g
not_below h i q x k f g t a is lt id =
    let p = k.rules.shares g t is in
    let s = k.rules.shared g p.0 in
    let e = k.rules.exclusive f a.granted in
    let j = winner_joined h i (x.instance f) (x.holder f) (x.holder f) f e.ballot in
    let l = winner_joined h i (x.won g) (x.sharer g) (x.sharer g) g s.ballot in
    let jt = j.2 in
    let lt2 = l.2 in
    let ft = a.since in
    let gt = p.1 in
    alive_same h i (x.holder f) (x.sharer g) j.0 l.0 t j.1 l.1 id (omega arith) (omega arith) a.alive p.2

-- From the mark on each block of its host is a mark.
pub marks_stay : MarksStay
marks_stay h i x k g t e is w since done =
    let p = k.rules.shares g t is in
    let s = k.rules.shared g p.0 in
    let mine = shown_own h i (x.sharer g) (x.mark g) e t s.writes s.writer w since done p.2 in
    let mode = s.mode t e is since done w.is mine in
    record { writes = w.is; writer = mine; shared = mode.0; generation = mode.1 }

-- What a read shows of a host that holds shared.
pub marks_shown : MarksAreShown
marks_shown h i x k g t a r is ok reads after done shows =
    let s = k.rules.shared g (k.rules.shares g t is).0 in
    let id = (x.sharer g).id in
    let mark : Wrote h id (x.mark g) = record { is = s.writes; host = ap (λ (u : Owner). u.id) s.writer } in
    let since = i.newest r id (x.mark g) a reads shows mark ok after in
    let past = i.register.earlier r id reads shows in
    elim (i.register.submitted r id reads shows) [
      | inl z ↦ let late = i.register.since (x.mark g) s.writes in absurd (omega arith)
      | inr w ↦ marks_stay h i x k g t (h.shown r id) is w since (omega arith)
    ]

-- The read of an exclusive grant of a greater instance would have shown the mark.
seen : (h : History) → IsLawful h → KeepsInstances h → (x : Grants) → IsGranted h x → (f g t : ℕ) → IsActive h x f t → x.shares g t ≡ true
    → x.won g < x.instance f → ((x.sharer g).id ≡ (x.holder f).id → ⊥) → ⊥
seen h i q x k f g t a is lt other =
    let p = k.rules.shares g t is in
    let s = k.rules.shared g p.0 in
    let e = k.rules.exclusive f a.granted in
    let begun = k.looks f a.granted in
    let lver = begun.2 in
    let look = begun.3 in
    let done = e.answer in
    let forward = i.register.forward (x.look f) e.reads in
    let since = a.since in
    let first = marks_first h i q x k g t s.ack begun.0 is s.acked begun.1 (omega arith) (omega arith) in
    let id = (x.sharer g).id in
    let mark = marks_shown h i x k g t s.ack (x.look f) is s.acked e.reads (omega arith) (omega arith) (e.whole id other) in
    let ev = e.alone id other mark.shared in
    let named : h.evidence (x.holder f) (record { id = id; generation = (x.sharer g).generation }) ev.0 ≡ true =
    subst (λ (n : ℕ). h.evidence (x.holder f) (record { id = id; generation = n }) ev.0 ≡ true) mark.generation ev.2 in
    let j = winner_joined h i (x.won g) (x.sharer g) (x.sharer g) g s.ballot in
    let over = q.evidence (x.holder f) (x.sharer g) ev.0 j.0 named j.1 in
    let soon = ev.1 in
    p.2 (i.sessions.final (x.sharer g) ev.0 t over (omega arith))

pub none_shares : NoneShares
none_shares h i q x k f g t a is =
    let p = k.rules.shares g t is in
    let s = k.rules.shared g p.0 in
    let e = k.rules.exclusive f a.granted in
    let bound = won_bounds h i q x k f t a (x.won g) (x.sharer g) (x.sharer g) g s.ballot p.1 in
    elim (less_or_same (x.won g) (x.instance f) bound) [
      | inl lt ↦ elim (cases_lt (x.holder f).id (x.sharer g).id) [
        | inl less ↦ absurd (seen h i q x k f g t a is lt (λ same. omega arith))
        | inr more ↦ elim (less_or_same (x.sharer g).id (x.holder f).id more) [
          | inl less ↦ absurd (seen h i q x k f g t a is lt (λ same. omega arith))
          | inr same ↦ not_below h i q x k f g t a is lt (sym same)
        ]
      ]
      | inr same ↦ agreement h i (x.instance f) (x.holder f) (x.sharer g) (x.holder f) (x.sharer g) f g e.ballot (subst (λ (n : ℕ). BallotEnded h (x.sharer g) n (x.sharer g) g) same s.ballot)
    ]

pub active_is_open : ActiveIsOpen
active_is_open h i q x k g t a = (active_open h i q x k g t a, active_bounds h i q x k g t a)

pub no_conflict : NoConflict
no_conflict h i q x k f g t is =
    let a = held_active h x k f t is in
    (λ other. (one_exclusive h i q x k f g t a (held_active h x k g t other)).0, λ other. none_shares h i q x k f g t a other)
