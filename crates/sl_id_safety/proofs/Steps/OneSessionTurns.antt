-- Where of one daemon's sessions one at most is begun and not over, a change of them all is one step: it passes, loses its claim or ends.
use Rattle.sl_id_safety.proofs.State.Frames.{ended}
use Rattle.sl_id_safety.proofs.State.StateFrames.{agree_on, name_cases, one_step}
use Rattle.sl_ids.specs.Runs.{IsBounded, Later}
use Rattle.sl_ids.specs.State.{Session as IdSession, SessionId as IdName, State, moment}
use Rattle.sl_ids.specs.Steps.{Ends, Loses, Renews, SameLandings, after_end, after_losing, after_renewal}
use Rattle.sl_ids.specs.Terms.{Terms}
use Rattle.sl_words.proofs.CaseLaws.{is_false, not_both, true_is_false, true_or_false}
use Rattle.sl_words.proofs.OrderLaws.{same_or_apart}
use Rattle.sl_words.proofs.WordLaws.{and_true}
use Rattle.std.proofs.Common.{ap, arith, inl, inr, refl, subst, sym, ◌∙◌}
use Rattle.std.proofs.lemmas.Bool.{not-true}
use Rattle.std.specs.Prelude.{Bool, false, not, suc, true, zero, ℕ, ◌&&◌, ◌<◌, ◌≡◌, ◌≤◌, ◌⊎◌}

-- ---- one session

-- It stays, loses its claim, or ends.
pub data Turns (s t : IdSession) : Type 0 where
  Stays_so : t ≡ s → Turns s t
  Loses_claim : t ≡ after_losing s → Turns s t
  Ends_now : t ≡ after_end s → Turns s t

-- One that isn't over, by its flags.
pub flags_turn : (s : IdSession) (pending over : Bool) → s.over ≡ false → (over ≡ true → pending ≡ false) → (pending ≡ true → s.pending ≡ true)
    → Turns s (ended s pending over)
flags_turn s true true alive last waits = absurd (true_is_false (last refl))
flags_turn s false true alive last waits = Ends_now refl
flags_turn s true false alive last waits = Stays_so (ap (λ b. ended s b false) (sym (waits refl)) ∙ ap (λ b. ended s s.pending b) (sym alive))
flags_turn s false false alive last waits = Loses_claim (ap (λ b. ended s false b) (sym alive))

-- One that is over stays.
pub flags_stay : (s : IdSession) (pending over : Bool) → s.over ≡ true → s.pending ≡ false → over ≡ true → (pending ≡ true → s.pending ≡ true)
    → ended s pending over ≡ s
flags_stay s pending over closed none last waits =
    let free : pending ≡ false = is_false pending (λ t. not_both s.pending (waits t) none) in
    ap (λ b. ended s b over) (free ∙ sym none) ∙ ap (λ b. ended s s.pending b) (last ∙ sym closed)

-- ---- one of them

below : (n k : ℕ) → (k ≡ n → ⊥) → k < suc n → k < n
below n k apart lt = grind arith

last_too : (test : ℕ → Bool) (n k : ℕ) → ((k : ℕ) → k < n → test k ≡ false) → test n ≡ false → (k ≡ n) ⊎ (k ≡ n → ⊥) → k < suc n → test k ≡ false
last_too test n k none here (inl e) lt = ap test e ∙ here
last_too test n k none here (inr apart) lt = none k (below n k apart lt)

-- A number that passes, or none below.
pub pick : (test : ℕ → Bool) (n : ℕ) → ((k : ℕ) × (k < n) × (test k ≡ true)) ⊎ ((k : ℕ) → k < n → test k ≡ false)
pick test zero = inr (λ k lt. absurd (omega (arith, lt)))
pick test (suc n) =
    elim (pick test n) as (λ z. ((k : ℕ) × (k < suc n) × (test k ≡ true)) ⊎ ((k : ℕ) → k < suc n → test k ≡ false)) [
      | inl p ↦ inl (p.0, omega (arith, p.1), p.2)
      | inr none ↦ elim (true_or_false (test n)) as (λ z. ((k : ℕ) × (k < suc n) × (test k ≡ true)) ⊎ ((k : ℕ) → k < suc n → test k ≡ false)) [
        | inl here ↦ inl (n, omega arith, here)
        | inr not_here ↦ inr (λ k lt. last_too test n k none not_here (same_or_apart k n) lt)
      ]
    ]

-- ---- a daemon's sessions

-- The sessions of a daemon of a machine.
abbrev pub IsOfDaemon : ℕ → ℕ → IdName → Type 0
IsOfDaemon m d j = (j.machine ≡ m) × (j.daemon ≡ d)

abbrev pub of_number : ℕ → ℕ → ℕ → IdName
of_number m d k = record { machine = m; daemon = d; number = k }

-- What a change is to them, and to all others: of one that is begun and not over, this is true.
pub record OneMay (P : IdSession → IdSession → Type 0) (w v : State) (m d : ℕ) : Type 0 where
  pub now : v.now ≡ w.now
  pub same : SameLandings w v
  pub others : (j : IdName) → (IsOfDaemon m d j → ⊥) → v.session j ≡ w.session j
  pub blank : (j : IdName) → IsOfDaemon m d j → (w.session j).begun ≡ false → v.session j ≡ w.session j
  pub over : (j : IdName) → IsOfDaemon m d j → (w.session j).begun ≡ true → (w.session j).over ≡ true → v.session j ≡ w.session j
  pub turns : (j : IdName) → IsOfDaemon m d j → (w.session j).begun ≡ true → (w.session j).over ≡ false → P (w.session j) (v.session j)
  pub count : ℕ
  pub few : (k : ℕ) → count ≤ k → (w.session (of_number m d k)).begun ≡ false
  pub solo : (j k : IdName) → IsOfDaemon m d j → IsOfDaemon m d k → (j ≡ k → ⊥) → (w.session j).begun ≡ true → (w.session k).begun ≡ true
      → ((w.session j).over ≡ true) ⊎ ((w.session k).over ≡ true)

abbrev pub OneTurns : State → State → ℕ → ℕ → Type 0
OneTurns = OneMay Turns

of_daemon : (m d : ℕ) (j : IdName) → IsOfDaemon m d j → j ≡ of_number m d j.number
of_daemon m d j is =
    ap (λ x. let y : IdName = record { machine = x; daemon = j.daemon; number = j.number } in y) is.0
    ∙ ap (λ x. let y : IdName = record { machine = m; daemon = x; number = j.number } in y) is.1

daemon_by : (m d : ℕ) (j : IdName) → (j.machine ≡ m) ⊎ (j.machine ≡ m → ⊥) → (j.daemon ≡ d) ⊎ (j.daemon ≡ d → ⊥) → IsOfDaemon m d j ⊎ (IsOfDaemon m d j → ⊥)
daemon_by m d j (inl a) (inl b) = inl (a, b)
daemon_by m d j (inr a) b = inr (λ p. a p.0)
daemon_by m d j (inl a) (inr b) = inr (λ p. b p.1)

pub of_daemon_or_not : (m d : ℕ) (j : IdName) → IsOfDaemon m d j ⊎ (IsOfDaemon m d j → ⊥)
of_daemon_or_not m d j = daemon_by m d j (same_or_apart j.machine m) (same_or_apart j.daemon d)

-- Whether one has begun and isn't over.
abbrev acts : State → ℕ → ℕ → ℕ → Bool
acts w m d k = (w.session (of_number m d k)).begun && not (w.session (of_number m d k)).over

neither : (a b : Bool) → (a && not b) ≡ false → a ≡ true → b ≡ true
neither true true h k = refl
neither true false h k = absurd (true_is_false h)
neither false b h k = absurd (true_is_false (sym k))

rest_by : {P : IdSession → IdSession → Type 0} (w v : State) (m d : ℕ) (t : OneMay P w v m d) (j : IdName) → IsOfDaemon m d j → (b : Bool) → (w.session j).begun ≡ b
    → ((w.session j).begun ≡ true → (w.session j).over ≡ true) → v.session j ≡ w.session j
rest_by w v m d t j is false begun closed = t.blank j is begun
rest_by w v m d t j is true begun closed = t.over j is begun (closed begun)

-- Each that isn't the one stays.
pub others_rest : {P : IdSession → IdSession → Type 0} (w v : State) (m d : ℕ) (t : OneMay P w v m d) (k : ℕ) → acts w m d k ≡ true → (j : IdName) → (j ≡ of_number m d k → ⊥)
    → v.session j ≡ w.session j
others_rest w v m d t k acting j apart =
    let p = and_true (w.session (of_number m d k)).begun (not (w.session (of_number m d k)).over) acting in
    elim (of_daemon_or_not m d j) as (λ z. v.session j ≡ w.session j) [
      | inr other ↦ t.others j other
      | inl is ↦ rest_by w v m d t j is (w.session j).begun refl (λ begun.
          elim (t.solo j (of_number m d k) is (refl, refl) apart begun p.0) as (λ z. (w.session j).over ≡ true) [
            | inl closed ↦ closed
            | inr alive ↦ absurd (not_both (w.session (of_number m d k)).over alive (not-true (w.session (of_number m d k)).over p.1))
          ])
    ]

low_or_high : (k n : ℕ) → (k < n) ⊎ (n ≤ k)
low_or_high k n = grind arith

closed_by : {P : IdSession → IdSession → Type 0} (w v : State) (m d : ℕ) (t : OneMay P w v m d) (j : IdName) → IsOfDaemon m d j → ((k : ℕ) → k < t.count → acts w m d k ≡ false)
    → (w.session j).begun ≡ true → (j.number < t.count) ⊎ (t.count ≤ j.number) → (w.session j).over ≡ true
closed_by w v m d t j is none begun (inl low) =
    let e = of_daemon m d j is in
    subst (λ n. (w.session n).over ≡ true) (sym e)
    (neither (w.session (of_number m d j.number)).begun (w.session (of_number m d j.number)).over (none j.number low)
    (subst (λ n. (w.session n).begun ≡ true) e begun))
closed_by w v m d t j is none begun (inr high) =
    absurd (not_both (w.session j).begun begun (subst (λ n. (w.session n).begun ≡ false) (sym (of_daemon m d j is)) (t.few j.number high)))

-- Where none acts all stay.
none_acts : {P : IdSession → IdSession → Type 0} (w v : State) (m d : ℕ) (t : OneMay P w v m d) → ((k : ℕ) → k < t.count → acts w m d k ≡ false) → (j : IdName) → v.session j ≡ w.session j
none_acts w v m d t none j =
    elim (of_daemon_or_not m d j) as (λ z. v.session j ≡ w.session j) [
      | inr other ↦ t.others j other
      | inl is ↦ rest_by w v m d t j is (w.session j).begun refl (λ begun.
          closed_by w v m d t j is none begun (low_or_high j.number t.count))
    ]

turn_by : (r : Terms) (w v : State) → v.now ≡ w.now → SameLandings w v → IsBounded r v → (s : IdName)
    → ((j : IdName) → (j ≡ s → ⊥) → v.session j ≡ w.session j) → Turns (w.session s) (v.session s) → Later r w v
turn_by r w v now same bounded s others (Stays_so e) =
    agree_on r w v now same (λ j. elim (name_cases j s) as (λ z. v.session j ≡ w.session j) [
      | inl one ↦ ap v.session one ∙ e ∙ ap w.session (sym one)
      | inr apart ↦ others j apart
    ]) bounded
turn_by r w v now same bounded s others (Loses_claim e) =
    one_step r w v (Loses s (record { same = same; changes = record { now = now; self = e; others = others } })) bounded
turn_by r w v now same bounded s others (Ends_now e) =
    one_step r w v (Ends s (record { same = same; changes = record { now = now; self = e; others = others } })) bounded

-- So the change is that of one of them, or of none.
pub one_may : (P : IdSession → IdSession → Type 0) (r : Terms) (w v : State) (m d : ℕ) → OneMay P w v m d → IsBounded r v
    → ((s : IdName) → ((j : IdName) → (j ≡ s → ⊥) → v.session j ≡ w.session j) → P (w.session s) (v.session s) → Later r w v) → Later r w v
one_may P r w v m d t bounded step =
    elim (pick (acts w m d) t.count) as (λ z. Later r w v) [
      | inl p ↦ let q = and_true (w.session (of_number m d p.0)).begun (not (w.session (of_number m d p.0)).over) p.2 in
          step (of_number m d p.0) (others_rest w v m d t p.0 p.2)
          (t.turns (of_number m d p.0) (refl, refl) q.0 (not-true (w.session (of_number m d p.0)).over q.1))
      | inr none ↦ agree_on r w v t.now t.same (none_acts w v m d t none) bounded
    ]

-- .. and one step.
pub one_turns : (r : Terms) (w v : State) (m d : ℕ) → OneTurns w v m d → IsBounded r v → Later r w v
one_turns r w v m d t bounded = one_may Turns r w v m d t bounded (turn_by r w v t.now t.same bounded)

-- ---- a renewal

-- A renewal of it counts.
pub record Renewed (w : State) (s t : IdSession) : Type 0 where
  pub verified : s.verified ≡ true
  pub index : ℕ
  pub above : s.claim < index
  pub within : index < w.count
  pub submitted : ℕ
  pub before : submitted ≤ moment w index
  pub is : t ≡ after_renewal submitted s

-- It turns, or a renewal of it counts.
pub data Acts (w : State) (s t : IdSession) : Type 0 where
  Turned : Turns s t → Acts w s t
  Renews_so : s.over ≡ false → Renewed w s t → Acts w s t

act_by : (r : Terms) (w v : State) → v.now ≡ w.now → SameLandings w v → IsBounded r v → (s : IdName)
    → ((j : IdName) → (j ≡ s → ⊥) → v.session j ≡ w.session j) → Acts w (w.session s) (v.session s) → Later r w v
act_by r w v now same bounded s others (Turned t) = turn_by r w v now same bounded s others t
act_by r w v now same bounded s others (Renews_so alive t) =
    one_step r w v
    (Renews s (record {
      verified = t.verified;
      not_over = alive;
      index = t.index;
      above = t.above;
      within = t.within;
      submitted = t.submitted;
      before = t.before;
      same = same;
      changes = record { now = now; self = t.is; others = others };
    }))
    bounded

pub one_acts : (r : Terms) (w v : State) (m d : ℕ) → OneMay (Acts w) w v m d → IsBounded r v → Later r w v
one_acts r w v m d t bounded = one_may (Acts w) r w v m d t bounded (act_by r w v t.now t.same bounded)
