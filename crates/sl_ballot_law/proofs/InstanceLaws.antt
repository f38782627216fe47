-- Leaders name winners, and instances close in order.
use Rattle.sl_ballot_law.proofs.AgreementLaws.{accepted, agreement, number}
use Rattle.sl_ballot_law.proofs.BlockLaws.{base_before, base_of}
use Rattle.sl_ballot_law.specs.Ballots.{BallotEnded, BeginReason, Begun, Freed_before, IsLawful, LeaderSubmitted, Leads_itself, Lost_before, Mode_only, Never_led, Owner_over, Phase, Phase_1, Phase_2}
use Rattle.sl_ballot_law.specs.Disk.{IsRegister}
use Rattle.sl_ballot_law.specs.History.{History, Owner}
use Rattle.sl_ballot_law.specs.Instances.{IsClosed, KeepsInstances, No_instance, Winner_freed, Winner_over}
use Rattle.sl_ballot_law.specs.Sessions.{SessionsInOrder}
use Rattle.sl_ballot_law.specs.Theorems.{InstancesClose, LeadersAreWinners}
use Rattle.sl_words.proofs.OrderLaws.{by_smaller, less_or_same}
use Rattle.std.proofs.Common.{Bool, Some, ap, arith, false, inl, inr, subst, sym, true, ℕ, ◌+◌, ◌<◌, ◌∙◌, ◌≡◌, ◌≤◌}

-- ---- what is stable

pub ended_before : (h : History) → IsRegister h → (n : ℕ) (s v : Owner) (t : ℕ) (b : BallotEnded h s n v t) → b.write < t
ended_before h r n s v t b =
    let a = r.answered b.write b.ack b.writes b.acked in
    let c = b.after in
    let d = r.forward b.read b.reads in
    let e = b.answer in
    omega arith

pub ended_later : (h : History) (n : ℕ) (s v : Owner) (t u : ℕ) → t ≤ u → BallotEnded h s n v t → BallotEnded h s n v u
ended_later h n s v t u l b = record {
  write = b.write;
  writes = b.writes;
  writer = b.writer;
  two = b.two;
  lver = b.lver;
  value = b.value;
  ack = b.ack;
  acked = b.acked;
  read = b.read;
  reads = b.reads;
  after = b.after;
  answer = let a = b.answer in omega arith;
  clean = b.clean;
}

pub led_later : (h : History) (n : ℕ) (s : Owner) (f : Bool) (t u : ℕ) → t ≤ u → LeaderSubmitted h n s f t → LeaderSubmitted h n s f u
led_later h n s f t u l d = record { step = d.step; leads = d.leads; before = let a = d.before in omega arith; lver = d.lver; owner = d.owner; held = d.held }

pub closed_later : (h : History) → SessionsInOrder h → (n t u : ℕ) → t ≤ u → IsClosed h n t → IsClosed h n u
closed_later h o n t u l (No_instance z) = No_instance z
closed_later h o n t u l (Winner_over s v b over) = Winner_over s v (ended_later h n s v t u l b) (o.final v t u over l)
closed_later h o n t u l (Winner_freed v d) = Winner_freed v (led_later h n v false t u l d)

-- ---- values are of sessions that joined

abbrev HasJoined : History → Owner → Type 0
HasJoined h s = (j : ℕ) × (h.joined s ≡ Some j)

joined_block : (h : History) → IsLawful h → (e : ℕ) → h.writes e ≡ true → 0 < (h.block e).bal → HasJoined h (h.block e).inp
joined_block h i = by_smaller (λ e. h.writes e ≡ true → 0 < (h.block e).bal → HasJoined h (h.block e).inp) (λ e before w pos.
    let from = accepted h i e w pos in
    let at = from.by_then in
    subst (HasJoined h) from.inp (elim from.two.value [
      | inl q ↦ let j = i.sessions.writers from.write from.writes in (j.0, ap h.joined q.own ∙ j.1)
      | inr q ↦
          let r = from.two.read in
          let early = i.register.earlier r q.host from.two.reads (from.two.clean.whole q.host) in
          let late = from.two.before in
          subst (HasJoined h) (sym q.inp) (elim (i.register.submitted r q.host from.two.reads (from.two.clean.whole q.host)) [
            | inl z ↦ let none = i.register.zeros.2 in let at0 : (h.block (h.shown r q.host)).bal ≡ (h.block 0).bal = ap (λ (x : ℕ). (h.block x).bal) z in let more = q.bal in absurd (omega arith)
            | inr k ↦ before (h.shown r q.host) (omega arith) k.is q.bal
          ])
    ]))

pub joined_value : (h : History) → IsLawful h → (n : ℕ) (s v : Owner) (t : ℕ) → BallotEnded h s n v t → HasJoined h v
joined_value h i n s v t b = subst (HasJoined h) b.value (joined_block h i b.write b.writes (let m = number h i b.write b.two in let a = b.two.bal in omega arith))

-- ---- leaders

pub led_won : (h : History) → KeepsInstances h → (n : ℕ) (s : Owner) (f : Bool) (t : ℕ) → LeaderSubmitted h n s f t → BallotEnded h s n s t
led_won h k n s f t d =
    let b = k.leaders d.step d.leads in
    let P : ℕ → Owner → Type 0 = λ m u. BallotEnded h u m u d.step in
    ended_later h n s s d.step t (let a = d.before in omega arith) (subst (λ (m : ℕ). P m s) d.lver (subst (λ (u : Owner). P (h.leader d.step).lver u) d.owner b))

-- ---- instances

abbrev Closes : History → ℕ → Type 0
Closes h e = h.writes e ≡ true → (k : ℕ) → k < (h.block e).lver → IsClosed h k e

-- What lies below an instance that was won before.
closes_won : (h : History) → IsLawful h → (e : ℕ) → ((d : ℕ) → d < e → Closes h d) → (m : ℕ) (s v : Owner) → BallotEnded h s m v e → (k : ℕ)
    → k < m → IsClosed h k e
closes_won h i e before m s v b k l =
    let early = ended_before h i.register m s v e b in
    let at = b.lver in
    closed_later h i.sessions k b.write e (omega arith) (before b.write early b.writes k (omega arith))

-- .. and of it and the instance above it.
closes_next : (h : History) → IsLawful h → (e : ℕ) → ((d : ℕ) → d < e → Closes h d) → (m : ℕ) (s v : Owner) → BallotEnded h s m v e
    → IsClosed h m e → (k : ℕ) → k < m + 1 → IsClosed h k e
closes_next h i e before m s v b c k l = elim (less_or_same k m (omega arith)) [
  | inl lt ↦ closes_won h i e before m s v b k lt
  | inr same ↦ subst (λ (x : ℕ). IsClosed h x e) (sym same) c
]

known_over : (h : History) → IsLawful h → KeepsInstances h → (o v : Owner) (t e : ℕ) → HasJoined h v → h.evidence o v t ≡ true → t ≤ e
    → h.over v e ≡ true
known_over h i q o v t e j ev l = i.sessions.final v t e (q.evidence o v t j.0 ev j.1) l

closes_begins : (h : History) → IsLawful h → KeepsInstances h → (e : ℕ) → ((d : ℕ) → d < e → Closes h d) → (s : Owner) (n : ℕ)
    → BeginReason h s n e → (k : ℕ) → k < n → IsClosed h k e
closes_begins h i q e before s n (Begun d w l at) k lt = closed_later h i.sessions k d e (omega arith) (before d l w k (omega arith))
closes_begins h i q e before s n (Never_led one) k lt = No_instance (omega arith)
closes_begins h i q e before s n (Freed_before w m next d) k lt =
    closes_next h i e before m w w (led_won h q m w false e d) (Winner_freed w d) k (omega arith)
closes_begins h i q e before s n (Owner_over w m t next d ev l) k lt =
    let b = led_won h q m w true e d in
    closes_next h i e before m w w b (Winner_over w w b (known_over h i q s w t e (joined_value h i m w w e b) ev l)) k (omega arith)
closes_begins h i q e before s n (Leads_itself d) k lt = closes_won h i e before n s s (led_won h q n s true e d) k lt
closes_begins h i q e before s n (Lost_before v m t next b ev l) k lt =
    closes_next h i e before m s v b (Winner_over s v b (known_over h i q s v t e (joined_value h i m s v e b) ev l)) k (omega arith)

closes_base : (h : History) → IsLawful h → (e : ℕ) → ((d : ℕ) → d < e → Closes h d) → h.writes e ≡ true
    → (h.block e).lver ≡ (h.block (h.base e)).lver → (k : ℕ) → k < (h.block e).lver → IsClosed h k e
closes_base h i e before w lver k lt =
    let early = base_before h i e w in
    elim (base_of h i e w) [
      | inl z ↦ let none = i.register.zeros.0 in let at0 : (h.block (h.base e)).lver ≡ (h.block 0).lver = ap (λ (x : ℕ). (h.block x).lver) z in absurd (omega arith)
      | inr b ↦ closed_later h i.sessions k (h.base e) e (omega arith) (before (h.base e) early b.is k (omega arith))
    ]

closes_phase : (h : History) → IsLawful h → KeepsInstances h → (e : ℕ) → ((d : ℕ) → d < e → Closes h d) → h.writes e ≡ true → Phase h e
    → (k : ℕ) → k < (h.block e).lver → IsClosed h k e
closes_phase h i q e before w (Phase_1 f) k lt = closes_begins h i q e before (h.writer e) (h.block e).lver f.reason k lt
closes_phase h i q e before w (Phase_2 f) k lt = closes_base h i e before w f.lver k lt
closes_phase h i q e before w (Mode_only f) k lt = closes_base h i e before w f.lver k lt

pub closes : (h : History) → IsLawful h → KeepsInstances h → (e : ℕ) → Closes h e
closes h i q = by_smaller (Closes h) (λ e before w k lt. closes_phase h i q e before w (i.ballots.phase e w) k lt)

pub instances_close : InstancesClose
instances_close h i q e w k l = closes h i q e w k l

pub leads_winner : LeadersAreWinners
leads_winner h i q l is s v t b = agreement h i (h.leader l).lver s (h.leader l).owner v (h.leader l).owner t l b (q.leaders l is)
