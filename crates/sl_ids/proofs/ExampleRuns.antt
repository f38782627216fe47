-- The runs of the examples. Two sessions act in them, of two machines; all others have done nothing. A session acts for less than 10 after
-- it was renewed, and registers for its verify read less than 20 after its claim.
use Rattle.sl_ids.proofs.DerivedLaws.{go_on, listed}
use Rattle.sl_ids.proofs.StateLaws.{same_session}
use Rattle.sl_ids.specs.Examples.{ShorterSilenceFails, SilentClaimFails, SomeIdIsTakenOver}
use Rattle.sl_ids.specs.Interface.{Silent}
use Rattle.sl_ids.specs.Listed.{state_of}
use Rattle.sl_ids.specs.Runs.{IsBounded, IsStart, Later, Reached, Starts_held}
use Rattle.sl_ids.specs.State.{Claimed, IsNew, Landing, Live, Session, SessionId, State}
use Rattle.sl_ids.specs.Steps.{ChangesOnly, Decides, Ends, Lands_claim, Lands_own, Passes, Renewal, Renews, Step, Verifies, Was_unchanged, after_claim, after_deciding, after_end, after_renewal, after_verifying}
use Rattle.sl_ids.specs.Terms.{Terms}
use Rattle.sl_words.proofs.CaseLaws.{false_is_true, true_is_false}
use Rattle.sl_words.proofs.TableLaws.{put, put-other}
use Rattle.sl_words.proofs.WordLaws.{and_true}
use Rattle.std.proofs.Common.{Bool, List, Some, arith, false, inl, inr, length, refl, subst, sym, true, [], ℕ, ◌&&◌, ◌++◌, ◌+◌, ◌<◌, ◌==◌, ◌∙◌, ◌∷◌, ◌≡◌, ◌≤◌}
use Rattle.std.proofs.lemmas.Bool.{eqb-true}

-- ---- two sessions

abbrev pub first : SessionId
first = record { machine = 1; daemon = 0; number = 0 }

abbrev pub second : SessionId
second = record { machine = 2; daemon = 0; number = 0 }

abbrev pub same : SessionId → SessionId → Bool
same i j = i.machine == j.machine && (i.daemon == j.daemon && i.number == j.number)

same_tells : (i j : SessionId) → same i j ≡ true → i ≡ j
same_tells i j h =
    let p = and_true (i.machine == j.machine) (i.daemon == j.daemon && i.number == j.number) h in
    let q = and_true (i.daemon == j.daemon) (i.number == j.number) p.1 in
    let machine = eqb-true i.machine j.machine p.0 in
    let daemon = eqb-true i.daemon j.daemon q.0 in
    let number = eqb-true i.number j.number q.1 in
    λ d. record { machine = machine d; daemon = daemon d; number = number d }

-- The names of their daemons.
abbrev pub one_name : List ℕ
one_name = 1 ∷ []

abbrev pub two_name : List ℕ
two_name = 2 ∷ []

pub names_differ : one_name ≡ two_name → ⊥
names_differ e = absurd cc

abbrev pub new : Session
new = record { begun = false; decided = false; pending = false; landed = false; verified = false; joined = false; over = false; base = 0; claim = 0; name = []; generation = 0; seq = 0; registered = 0; renewed = 0 }

-- The two sessions, and all others new.
abbrev pub pair : Session → Session → SessionId → Session
pair a b = put same (put same (λ k. new) first a) second b

pub other : (f : SessionId → Session) (i : SessionId) (x : Session) (j : SessionId) → (j ≡ i → ⊥) → put same f i x j ≡ f j
other f i x j apart = put-other same f i x j (same_tells j i) apart

second_only : (a b c : Session) (j : SessionId) → (j ≡ second → ⊥) → pair a c j ≡ pair a b j
second_only a b c j apart = other (put same (λ k. new) first a) second c j apart ∙ sym (other (put same (λ k. new) first a) second b j apart)

first_only : (a b c : Session) (j : SessionId) → (j ≡ first → ⊥) → pair c b j ≡ pair a b j
first_only a b c j apart =
    elim (same_session j second) [
      | inl e ↦ subst (λ (k : SessionId). pair c b k ≡ pair a b k) (sym e) refl
      | inr far ↦
          other (put same (λ k. new) first c) second b j far ∙ (other (λ k. new) first c j apart
          ∙ (sym (other (λ k. new) first a j apart) ∙ sym (other (put same (λ k. new) first a) second b j far)))
    ]

pub each_of : (P : Session → Type 0) (a b : Session) → P new → P a → P b → (j : SessionId) → P (pair a b j)
each_of P a b n x y j =
    elim (same_session j second) [
      | inl e ↦ subst (λ (k : SessionId). P (pair a b k)) (sym e) y
      | inr far ↦ subst P (sym (other (put same (λ k. new) first a) second b j far)) (elim (same_session j first) [
        | inl e ↦ subst (λ (k : SessionId). P (put same (λ k. new) first a k)) (sym e) x
        | inr apart ↦ subst P (sym (other (λ k. new) first a j apart)) n
      ])
    ]

-- ---- states and steps

abbrev pub terms : ℕ → ℕ → ℕ → Terms
terms watch wait silence = record { gone = 10; hold = 20; watch = watch; wait = wait; silence = silence }

abbrev pub at : ℕ → List Landing → Session → Session → State
at now landings a b = state_of now landings (pair a b)

-- What one session must keep to for the watchdogs.
abbrev pub Acts : ℕ → Session → Type 0
Acts now s = (s.pending ≡ true → now < s.registered + 10) × (s.verified ≡ true → s.over ≡ false → now < s.renewed + 10)

pub bound : (watch wait silence now : ℕ) (landings : List Landing) (a b : Session) → Acts now a → Acts now b → IsBounded (terms watch wait silence) (at now landings a b)
bound watch wait silence now landings a b x y =
    let all = each_of (Acts now) a b (λ p. absurd (false_is_true p), λ p. absurd (false_is_true p)) x y in
    record { pending = λ s. (all s).0; acting = λ s. (all s).1 }

-- It can do nothing.
pub idle : (now : ℕ) (s : Session) → (s.pending ≡ true → ⊥) → (s.verified ≡ true → s.over ≡ false → ⊥) → Acts now s
idle now s p q = (λ x. absurd (p x), λ x y. absurd (q x y))

pub unbegun : (now : ℕ) → Acts now new
unbegun now = idle now new false_is_true (λ p q. false_is_true p)

pub first_changes : (now : ℕ) (landings more : List Landing) (a b c : Session) → ChangesOnly (at now landings a b) (at now more c b) first c
first_changes now landings more a b c = record { now = refl; self = refl; others = λ j apart. first_only a b c j apart }

pub second_changes : (now : ℕ) (landings more : List Landing) (a b c : Session) → ChangesOnly (at now landings a b) (at now more a c) second c
second_changes now landings more a b c = record { now = refl; self = refl; others = λ j apart. second_only a b c j apart }

pub pass : (r : Terms) (now later : ℕ) (landings : List Landing) (a b : Session) → now ≤ later → Step r (at now landings a b) (at later landings a b)
pass r now later landings a b l =
    Passes (record { later = l; same = listed.same now later landings (pair a b) (pair a b); sessions = λ j. refl })

pub more : (r : Terms) (w v : State) → Reached r w → Step r w v → IsBounded r v → Reached r v
more r w v p s b = go_on.reached r w v p (go_on.step r w v s b)

stays : (r : Terms) (w : State) → Later r w w
stays r w = ([], refl)

pub then : (r : Terms) (w u v : State) → Later r w u → Step r u v → IsBounded r v → Later r w v
then r w u v l s b = go_on.both r w u v l (go_on.step r u v s b)

-- The claim of a session, and its renewal.
abbrev pub claim_of : ℕ → SessionId → Session → ℕ → Landing
claim_of now i s seq = record { moment = now; writer = Some i; shown = Some (record { host = Some s.name; generation = s.generation; seq = seq; kind = Claimed }) }

abbrev pub renewal_of : ℕ → SessionId → Session → ℕ → Landing
renewal_of now i s seq = record { moment = now; writer = Some i; shown = Some (record { host = Some s.name; generation = s.generation; seq = seq; kind = Live }) }

-- One landing more.
abbrev with : List Landing → Landing → List Landing
with landings l = landings ++ l ∷ []

pub first_claims : (r : Terms) (now seq : ℕ) (landings : List Landing) (a b : Session) → a.pending ≡ true
    → Step r (at now landings a b) (at now (with landings (claim_of now first a seq)) (after_claim (length landings) seq a) b)
first_claims r now seq landings a b pending = Lands_claim first (record {
  pending = pending;
  seq = seq;
  lands = listed.lands now now first (claim_of now first a seq).shown landings (pair a b) (pair (after_claim (length landings) seq a) b);
  changes = first_changes now landings (with landings (claim_of now first a seq)) a b (after_claim (length landings) seq a);
})

pub second_claims : (r : Terms) (now seq : ℕ) (landings : List Landing) (a b : Session) → b.pending ≡ true
    → Step r (at now landings a b) (at now (with landings (claim_of now second b seq)) a (after_claim (length landings) seq b))
second_claims r now seq landings a b pending = Lands_claim second (record {
  pending = pending;
  seq = seq;
  lands = listed.lands now now second (claim_of now second b seq).shown landings (pair a b) (pair a (after_claim (length landings) seq b));
  changes = second_changes now landings (with landings (claim_of now second b seq)) a b (after_claim (length landings) seq b);
})

pub first_renewal : (r : Terms) (now seq : ℕ) (landings : List Landing) (a b : Session) → a.verified ≡ true → a.over ≡ false → a.seq < seq
    → Step r (at now landings a b) (at now (with landings (renewal_of now first a seq)) (record a { seq = seq }) b)
first_renewal r now seq landings a b verified alive rises = Lands_own first (record {
  verified = verified;
  not_over = alive;
  write = Renewal seq;
  rises = rises;
  lands = listed.lands now now first (renewal_of now first a seq).shown landings (pair a b) (pair (record a { seq = seq }) b);
  changes = first_changes now landings (with landings (renewal_of now first a seq)) a b (record a { seq = seq });
})

pub second_renewal : (r : Terms) (now seq : ℕ) (landings : List Landing) (a b : Session) → b.verified ≡ true → b.over ≡ false → b.seq < seq
    → Step r (at now landings a b) (at now (with landings (renewal_of now second b seq)) a (record b { seq = seq }))
second_renewal r now seq landings a b verified alive rises = Lands_own second (record {
  verified = verified;
  not_over = alive;
  write = Renewal seq;
  rises = rises;
  lands = listed.lands now now second (renewal_of now second b seq).shown landings (pair a b) (pair a (record b { seq = seq }));
  changes = second_changes now landings (with landings (renewal_of now second b seq)) a b (record b { seq = seq });
})

-- ---- an id that is taken over: a session was joined at first, and dies; another watches, claims, verifies and joins

abbrev stood : Landing
stood = record { moment = 0; writer = Some first; shown = Some (record { host = Some (one_name); generation = 1; seq = 0; kind = Live }) }

abbrev holder : Session
holder = record { begun = true; decided = false; pending = false; landed = false; verified = true; joined = true; over = false; base = 0; claim = 0; name = one_name; generation = 1; seq = 0; registered = 0; renewed = 0 }

abbrev decided : Session
decided = after_deciding 0 (two_name) 2 39 new

abbrev landed : Session
landed = after_claim 1 1 decided

abbrev verified : Session
verified = after_verifying 51 landed

abbrev renewing : Session
renewing = record verified { seq = 2 }

abbrev joined : Session
joined = after_renewal 52 renewing

abbrev claimed : List Landing
claimed = stood ∷ claim_of 40 second decided 1 ∷ []

abbrev renewed : List Landing
renewed = stood ∷ claim_of 40 second decided 1 ∷ renewal_of 52 second verified 2 ∷ []

pair_new : (j : SessionId) → (j ≡ first → ⊥) → pair holder new j ≡ new
pair_new j apart = elim (same_session j second) [
  | inl e ↦ subst (λ (k : SessionId). pair holder new k ≡ new) (sym e) refl
  | inr far ↦ other (put same (λ k. new) first holder) second new j far ∙ other (λ k. new) first holder j apart
]

pub is_new : IsNew new
is_new = record { begun = refl; decided = refl; pending = refl; landed = refl; verified = refl; joined = refl }

starts_held : IsStart (at 0 (stood ∷ []) holder new)
starts_held = record {
  one = refl;
  before = omega arith;
  content = record { host = Some (one_name); generation = 1; seq = 0; kind = Live };
  spelled = refl;
  starts = Starts_held first (record {
    begun = refl;
    decided = refl;
    pending = refl;
    landed = refl;
    verified = refl;
    joined = refl;
    not_over = refl;
    base = refl;
    claim = refl;
    generation = refl;
    some = omega arith;
    name = refl;
    seq = omega arith;
    kind = refl;
    renewed = omega arith;
    writer = refl;
    others = λ j apart. subst IsNew (sym (pair_new j apart)) is_new;
  });
}

-- The holder may act until moment 9.
holds : (watch wait silence now : ℕ) → now < 10 → IsBounded (terms watch wait silence) (at now (stood ∷ []) holder new)
holds watch wait silence now l = bound watch wait silence now (stood ∷ []) holder new (λ p. absurd (false_is_true p), λ p q. omega arith) (unbegun now)

held : (watch wait silence : ℕ) → Reached (terms watch wait silence) (at 0 (stood ∷ []) holder new)
held watch wait silence = (at 0 (stood ∷ []) holder new, [], starts_held, holds watch wait silence 0 (omega arith), refl)

abbrev exact : Terms
exact = terms 28 9 9

died : (now : ℕ) → Acts now (after_end holder)
died now = idle now (after_end holder) false_is_true (λ p q. true_is_false q)

dead_at_9 : Reached exact (at 9 (stood ∷ []) (after_end holder) new)
dead_at_9 =
    let r0 = held 28 9 9 in
    let r1 = more exact (at 0 (stood ∷ []) holder new) (at 9 (stood ∷ []) holder new) r0 (pass exact 0 9 (stood ∷ []) holder new (omega arith)) (holds 28 9 9 9 (omega arith)) in
    more exact (at 9 (stood ∷ []) holder new) (at 9 (stood ∷ []) (after_end holder) new) r1
    (Ends first (record { same = listed.same 9 9 (stood ∷ []) (pair holder new) (pair (after_end holder) new); changes = first_changes 9 (stood ∷ []) (stood ∷ []) holder new (after_end holder) }))
    (bound 28 9 9 9 (stood ∷ []) (after_end holder) new (died 9) (unbegun 9))

decided_at_40 : Reached exact (at 40 (stood ∷ []) (after_end holder) decided)
decided_at_40 =
    let r1 = more exact (at 9 (stood ∷ []) (after_end holder) new) (at 40 (stood ∷ []) (after_end holder) new) dead_at_9
    (pass exact 9 40 (stood ∷ []) (after_end holder) new (omega arith)) (bound 28 9 9 40 (stood ∷ []) (after_end holder) new (died 40) (unbegun 40)) in
    more exact (at 40 (stood ∷ []) (after_end holder) new) (at 40 (stood ∷ []) (after_end holder) decided) r1
    (Decides second (record {
      first = refl;
      not_over = refl;
      last = 0;
      is_last = refl;
      content = record { host = Some (one_name); generation = 1; seq = 0; kind = Live };
      spelled = refl;
      watched = Was_unchanged 0 5 (omega arith) refl (omega arith) (omega arith);
      registered = 39;
      before = omega arith;
      name = two_name;
      alone = λ j apart e p. absurd (alone j e p);
      same = listed.same 40 40 (stood ∷ []) (pair (after_end holder) new) (pair (after_end holder) decided);
      changes = second_changes 40 (stood ∷ []) (stood ∷ []) (after_end holder) new decided;
    }))
    (bound 28 9 9 40 (stood ∷ []) (after_end holder) decided (died 40) (λ p. omega arith, λ p. absurd (false_is_true p)))
  where
    alone : (j : SessionId) → (pair (after_end holder) new j).name ≡ two_name → (pair (after_end holder) new j).begun ≡ true → ⊥
    alone = each_of (λ s. s.name ≡ two_name → s.begun ≡ true → ⊥) (after_end holder) new (λ e p. false_is_true p) (λ e p. names_differ e) (λ e p. false_is_true p)

claimed_at_40 : Reached exact (at 40 claimed (after_end holder) landed)
claimed_at_40 =
    more exact (at 40 (stood ∷ []) (after_end holder) decided) (at 40 claimed (after_end holder) landed) decided_at_40
    (second_claims exact 40 1 (stood ∷ []) (after_end holder) decided refl)
    (bound 28 9 9 40 claimed (after_end holder) landed (died 40) (λ p. absurd (false_is_true p), λ p. absurd (false_is_true p)))

claimed_until_52 : Later exact (at 40 claimed (after_end holder) landed) (at 52 claimed (after_end holder) landed)
claimed_until_52 = go_on.step exact (at 40 claimed (after_end holder) landed) (at 52 claimed (after_end holder) landed)
    (pass exact 40 52 claimed (after_end holder) landed (omega arith))
    (bound 28 9 9 52 claimed (after_end holder) landed (died 52) (λ p. absurd (false_is_true p), λ p. absurd (false_is_true p)))

joins_at_52 : Later exact (at 52 claimed (after_end holder) landed) (at 52 renewed (after_end holder) joined)
joins_at_52 =
    let acts : (s : Session) → s.pending ≡ false → 52 < s.renewed + 10 → Acts 52 s = λ s p l. (λ q. absurd (false_is_true (sym p ∙ q)), λ q o. l) in
    let l1 = go_on.step exact (at 52 claimed (after_end holder) landed) (at 52 claimed (after_end holder) verified)
    (Verifies second (record {
      landed = refl;
      not_over = refl;
      last = 1;
      is_last = refl;
      content = record { host = Some (two_name); generation = 2; seq = 1; kind = Claimed };
      spelled = refl;
      own = refl;
      waited = omega arith;
      registered = 51;
      before = omega arith;
      soon = omega arith;
      same = listed.same 52 52 claimed (pair (after_end holder) landed) (pair (after_end holder) verified);
      changes = second_changes 52 claimed claimed (after_end holder) landed verified;
    })) (bound 28 9 9 52 claimed (after_end holder) verified (died 52) (acts verified refl (omega arith))) in
    let l2 = then exact (at 52 claimed (after_end holder) landed) (at 52 claimed (after_end holder) verified) (at 52 renewed (after_end holder) renewing) l1
    (second_renewal exact 52 2 claimed (after_end holder) verified refl refl (omega arith))
    (bound 28 9 9 52 renewed (after_end holder) renewing (died 52) (acts renewing refl (omega arith))) in
    then exact (at 52 claimed (after_end holder) landed) (at 52 renewed (after_end holder) renewing) (at 52 renewed (after_end holder) joined) l2
    (Renews second (record {
      verified = refl;
      not_over = refl;
      index = 2;
      above = omega arith;
      within = omega arith;
      submitted = 52;
      before = omega arith;
      same = listed.same 52 52 renewed (pair (after_end holder) renewing) (pair (after_end holder) joined);
      changes = second_changes 52 renewed renewed (after_end holder) renewing joined;
    })) (bound 28 9 9 52 renewed (after_end holder) joined (died 52) (acts joined refl (omega arith)))

pub taken_over : SomeIdIsTakenOver
taken_over = record {
  terms = exact;
  long = record { some = omega arith; watch = omega arith; wait = omega arith; silence = omega arith };
  state = at 52 renewed (after_end holder) joined;
  reached = go_on.reached exact (at 52 claimed (after_end holder) landed) (at 52 renewed (after_end holder) joined)
      (go_on.reached exact (at 40 claimed (after_end holder) landed) (at 52 claimed (after_end holder) landed) claimed_at_40 claimed_until_52) joins_at_52;
  old = first;
  new = second;
  died = refl;
  first = refl;
  joined = refl;
  alive = refl;
  next = refl;
}

-- Its claim stood still for as long as a silence, and its session joined.
pub silent_claim : SilentClaimFails
silent_claim = record {
  terms = exact;
  long = record { some = omega arith; watch = omega arith; wait = omega arith; silence = omega arith };
  first = at 40 claimed (after_end holder) landed;
  last = at 52 claimed (after_end holder) landed;
  end = at 52 renewed (after_end holder) joined;
  reached = claimed_at_40;
  later = claimed_until_52;
  index = 1;
  content = record { host = Some (two_name); generation = 2; seq = 1; kind = Claimed };
  first_shown = (refl, refl);
  last_shown = (refl, refl);
  claim = refl;
  apart = omega arith;
  goes_on = joins_at_52;
  writer = second;
  joined = refl;
  its = refl;
  alive = refl;
}

-- ---- a silence that is one too short: the holder at its last moment

pub shorter_silence : ShorterSilenceFails
shorter_silence = record {
  terms = terms 28 9 8;
  some = omega arith;
  watch = omega arith;
  wait = omega arith;
  silence = refl;
  fails = record {
    state = at 9 (stood ∷ []) holder new;
    later = at 9 (stood ∷ []) holder new;
    reached = go_on.reached (terms 28 9 8) (at 0 (stood ∷ []) holder new) (at 9 (stood ∷ []) holder new) (held 28 9 8) until_9;
    generation = 1;
    evidence = Silent (at 0 (stood ∷ []) holder new) 0 0 (record { host = Some (one_name); generation = 1; seq = 0; kind = Live }) (held 28 9 8) until_9 refl refl refl refl refl refl (omega arith);
    goes_on = stays (terms 28 9 8) (at 9 (stood ∷ []) holder new);
    alive = first;
    joined = refl;
    its = refl;
    not_over = refl;
  };
}
  where
    until_9 : Later (terms 28 9 8) (at 0 (stood ∷ []) holder new) (at 9 (stood ∷ []) holder new)
    until_9 = go_on.step (terms 28 9 8) (at 0 (stood ∷ []) holder new) (at 9 (stood ∷ []) holder new)
        (pass (terms 28 9 8) 0 9 (stood ∷ []) holder new (omega arith)) (holds 28 9 8 9 (omega arith))
