-- The first renewal is written under the generation that was claimed: a live record has one.
use Rattle.sl_due.specs.Steps.{Step, seen}
use Rattle.sl_due_facts.proofs.Sessions.JoinedNumbers.{spelled_of}
use Rattle.sl_host_state.specs.KeptState.{HostState, MemberState}
use Rattle.sl_host_state.specs.declared.kept_parts.OpenCall.{OpenCall}
use Rattle.sl_run.specs.LawfulDelta.{LawfulDeltaCall, LawfulFirstRenewal}
use Rattle.sl_words.proofs.Lists.{contains_cases, contains_none, find_inside, kept_inside}
use Rattle.sl_sector.specs.Records.{IsDelta}
use Rattle.sl_sector.specs.declared.sector.DeltaRec.{DeltaRec}
use Rattle.sl_sector.specs.declared.sector.DeltaState.TheVariants.{Free, Live}
use Rattle.sl_sector.specs.declared.sector.Rec.TheVariants.{BlockIs, DeltaIs, LeaderIs, PairIs, PairLeaderIs, RequestIs, ValueIs}
use Rattle.sl_trace.specs.Sessions.{calls_of, delta_of_record, delta_written, given_number, is_call_of, joined_after, last_delta}
use Rattle.sl_trace.specs.declared.delta.DeltaKnown.{DeltaKnown}
use Rattle.sl_step_law.proofs.CallsOfMembers.{IsMembers, joined_still, members_call}
use Rattle.sl_step_law.proofs.MembersAreKnown.{members_are_known}
use Rattle.sl_step_law.specs.AnswersAwaited.{IsMembersCall}
use Rattle.sl_step_law.specs.Members.{JoiningsClaim}
use Rattle.sl_step_law.specs.ReadyHosts.{IsReady}
use Rattle.sl_trace.specs.Traces.{Submitted, record_of, submitted}
use Rattle.sl_trace.specs.declared.effects.JoinStep.TheVariants.{FirstRenewal}
use Rattle.sl_trace.specs.declared.effects.Op.TheVariants.{ReadSectors, WriteRecord}
use Rattle.sl_trace.specs.declared.effects.Op.{Op}
use Rattle.sl_trace.specs.declared.effects.Purpose.TheVariants.{Joining}
use Rattle.sl_trace.specs.declared.input.Input.TheVariants.{Wake}
use Rattle.sl_run_law.proofs.Sessions.WritesAreCovered.{joinings_are_in_turn}
use Rattle.sl_run_law.proofs.Sessions.CallOwners.{calls_were_lawful}
use Rattle.sl_run_law.specs.Sessions.SessionLaws.{all_done, fits, front_of, has_reply, is_in_turn, made_as}
use Rattle.sl_host_law.proofs.Replies.PlainNumbers.{same_number}
use Rattle.sl_words.proofs.CaseLaws.{none_some, some_value, true_is_false}
use Rattle.sl_words.proofs.WordLaws.{and_true}
use Rattle.std.proofs.Common.{ap, arith, inl, inr, refl, subst, sym, ◌∙◌}
use Rattle.std.proofs.lemmas.Bool.{cases_lt}
use Rattle.std.specs.Option.{option_map_or}
use Rattle.std.specs.Prelude.{Contains, List, None, Option, Some, is_some, option_and_then, true, [], ℕ, ◌&&◌, ◌==◌, ◌∷◌, ◌≡◌, ◌≤◌, ◌⊎◌}

-- What is written of an id is a delta record.
record_is : (op : Op) (d : DeltaRec) → option_and_then delta_of_record (record_of op) ≡ Some d → record_of op ≡ Some (DeltaIs d)
record_is (ReadSectors n) d is = absurd (none_some d is)
record_is (WriteRecord (DeltaIs e)) d is = ap (λ z. Some (DeltaIs z)) (some_value e d is)
record_is (WriteRecord (LeaderIs l)) d is = absurd (none_some d is)
record_is (WriteRecord (BlockIs b)) d is = absurd (none_some d is)
record_is (WriteRecord (PairIs p)) d is = absurd (none_some d is)
record_is (WriteRecord (PairLeaderIs l)) d is = absurd (none_some d is)
record_is (WriteRecord (RequestIs q)) d is = absurd (none_some d is)
record_is (WriteRecord (ValueIs v)) d is = absurd (none_some d is)

-- A live one has a generation.
live_claims : (d : DeltaRec) → IsDelta d → d.state ≡ Live → 1 ≤ d.generation
live_claims d is live = elim (cases_lt 0 d.generation) [
  | inl some ↦ omega (arith, some)
  | inr none ↦ absurd (free_is_live (sym (is.unused (omega (arith, none))).0 ∙ live))
] where
  free_is_live : Free ≡ Live → ⊥
  free_is_live e = cc

-- The open call is the newest.
newest_done : (ms : List Submitted) (d : Submitted) → all_done ms ≡ true → Contains ms d → is_some d.answer ≡ true
newest_done [] d all there = absurd (contains_none d there)
newest_done (m ∷ ms) d all there = by (and_true (fits m && has_reply m) (all_done ms) all) (contains_cases m ms d there) (λ a b. newest_done ms d a b) where
  by : ((fits m && has_reply m) ≡ true) × (all_done ms ≡ true) → (m ≡ d) ⊎ Contains ms d → (all_done ms ≡ true → Contains ms d → is_some d.answer ≡ true) → is_some d.answer ≡ true
  by v (inl is) rest = subst (λ (z : Submitted). is_some z.answer ≡ true) is (and_true (fits m) (has_reply m) v.0).1
  by v (inr more) rest = rest v.1 more

newest_writes : (ms : List Submitted) (d : Submitted) (r : DeltaRec) → is_in_turn ms ≡ true → Contains ms d → d.answer ≡ None → delta_written d ≡ Some r → last_delta ms ≡ Some r
newest_writes [] d r turn there opens wrote = absurd (contains_none d there)
newest_writes (m ∷ ms) d r turn there opens wrote = by (contains_cases m ms d there) where
  by : (m ≡ d) ⊎ Contains ms d → last_delta (m ∷ ms) ≡ Some r
  by (inl is) = ap (λ o. elim o as (λ z. Option DeltaRec) [ Some e ↦ Some e | None ↦ last_delta ms ]) (ap (λ z. delta_written z) is ∙ wrote)
  by (inr more) = absurd (true_is_false (sym (newest_done ms d (and_true (fits m) (all_done ms) turn).1 more) ∙ ap (λ o. is_some o) opens))

module _ (h : HostState) (x : Step) (number : ℕ) (c : OpenCall) (m : MemberState) (j : ℕ) (r : IsReady h x) (k : IsMembersCall h number c m) (for : c.purpose ≡ Joining j FirstRenewal) where
  the : (d : Submitted) × IsMembers h x m c d
  the = members_call h x m c r k.there (find_inside (λ (d : OpenCall). d.number == number) h.unanswered c k.is_open).0 k.its

  purpose : the.0.call.purpose ≡ Joining j FirstRenewal
  purpose = ap (λ (z : OpenCall). z.purpose) the.1.kept ∙ for

  mine : the.0.call.session ≡ m.who.number
  mine = same_number the.0.call.session m.who.number (kept_inside (is_call_of m.who) (submitted (seen x)) the.0 the.1.mine).1

  written : (d : DeltaRec) × (delta_written the.0 ≡ Some d) × (d.state ≡ Live)
  written =
      let was = calls_were_lawful x.setting (seen x) m.who the.0 r.kept.known.0.orderly the.1.session the.1.inside mine in
      let law : LawfulFirstRenewal x.setting (front_of was.made) m.who (made_as was.made) = subst (λ p. LawfulDeltaCall x.setting (front_of was.made) m.who (made_as was.made) p) purpose was.lawful in
      (_, law.written, refl)

  some : 1 ≤ written.0.generation
  some = live_claims written.0 (spelled_of x.setting (seen x) the.0 (DeltaIs written.0) r.kept.known.0.orderly the.1.inside (record_is the.0.call.op written.0 written.1)) written.2

  claims : 1 ≤ m.known.generation
  claims = by (joined_after (seen x) m.who) refl where
    by : (o : Option ℕ) → joined_after (seen x) m.who ≡ o → 1 ≤ m.known.generation
    by None none =
        let last = newest_writes (calls_of (seen x) m.who) the.0 written.0 (joinings_are_in_turn x.setting (seen x) m.who r.kept.known.0.orderly the.1.session none) the.1.mine the.1.open_one written.1 in
        subst (λ (d : DeltaKnown). 1 ≤ d.generation) the.1.stands.known (subst (λ n. 1 ≤ n) (sym (ap (λ o. option_map_or (λ (d : DeltaRec). d.generation) o (given_number m.who)) last)) some)
    by (Some n) joined = (members_are_known.each Wake h x m r.stands r.kept k.there).generation (sym the.1.stands.joined ∙ joined_still (seen x) m.who n joined the.1.present)

pub joinings_claim : JoiningsClaim
joinings_claim = claims
