-- A conversion that has come to its end keeps the laws: what it frees is no longer held exclusive.
use Rattle.sl_due_facts.specs.Acts.TraceSoFar.{entry_of}
use Rattle.sl_due.specs.CarriedLease.{carry_lease, convert_for, convert_holding, for_work, held_otherwise, with_command, write_block, write_leader}
use Rattle.sl_due.specs.Steps.{Step, add_end, add_grant, seen, with_some}
use Rattle.sl_run.specs.LawfulLeader.{holds_under}
use Rattle.sl_due_leases.proofs.Leases.LawsStay.{joined_more, three}
use Rattle.sl_due_leases.proofs.Leases.LeaseCallsStay.{LeaseMay, blocks_stay, leaders_stay}
use Rattle.sl_due_leases.proofs.Leases.NextsStay.{HeldThere, bare_lawful, held_there, not_true, unheld_if}
use Rattle.sl_due_leases.proofs.Leases.OthersKeep.{LawfulSoFar}
use Rattle.sl_due_leases.proofs.Ways.WayFactsHeld.CallsSame.{reply_leaves}
use Rattle.sl_due_leases.proofs.Ways.WayFactsHeld.EffectsLeave.{ends_leave, grants_leave, replies_leave, there_has}
use Rattle.sl_due_leases.proofs.Ways.WayFactsHeld.HeardStands.{exclusive_stands, spot_same}
use Rattle.sl_due_leases.proofs.Ways.WayFactsHeld.LeaseNextsLeave.{HasEnded, moment_of}
use Rattle.sl_due_leases.proofs.Ways.WayFactsHeld.PlacesStand.{either_list}
use Rattle.sl_due_leases.specs.Ways.WayFactsHeld.{LeasesStand}
use Rattle.sl_due_leases.specs.Ways.Nexts.{next_record, LeaderIsOwn, NextIs}
use Rattle.sl_trace.specs.Ballots.{moded_block}
use Rattle.sl_trace.specs.Jobs.{command_numbered, process_named}
use Rattle.sl_trace.specs.Leases.{block_submitted, ended_ballots, exclusive_on, holdings_on, is_lease_call, is_on, known, lease_calls, open_ballot, verified_name}
use Rattle.sl_trace.specs.declared.lease.LeaseNext.TheVariants.{BecomeExclusive, BecomeShared}
use Rattle.sl_sector.specs.declared.sector.Block.{Block}
use Rattle.sl_sector.specs.declared.sector.Leader.{Leader}
use Rattle.sl_trace.specs.Sessions.{generation_in, is_active, is_call_of, joined_after, leaving_job, me, recovery_of, removed_after}
use Rattle.sl_trace.specs.declared.session.Session.{Session}
use Rattle.sl_due_facts.specs.Facts.HeardCall.{heard_by}
use Rattle.sl_due_facts.specs.Facts.HoldingFacts.{HoldingFacts}
use Rattle.sl_due_facts.specs.Facts.WayFacts.{In_settling}
use Rattle.sl_trace.specs.declared.effects.Op.TheVariants.{WriteRecord}
use Rattle.std.proofs.lemmas.Bool.{and_from}
use Rattle.std.proofs.lemmas.List.Elements.{Contains-append_left, Contains-push, Contains-push_cases}
use Rattle.std.proofs.lemmas.Slice.Eq.{bytes_eq-Decides}
use Rattle.sl_words.proofs.Lists.{any_of, contains_none, find_fails, find_inside, kept, kept_inside}
use Rattle.sl_words.proofs.Numbers.{number_itself}
use Rattle.sl_words.proofs.Options.{mapped_value}
use Rattle.sl_words.proofs.WordLaws.{and_true}
use Rattle.sl_trace.specs.Traces.{Setting, Submitted, Trace, end_of, holdings, is_ended_by, is_shared, same_place, submitted}
use Rattle.sl_trace.specs.declared.command.Command.{Command}
use Rattle.sl_trace.specs.declared.effects.End.{End}
use Rattle.sl_trace.specs.declared.effects.Entry.{Entry}
use Rattle.sl_trace.specs.declared.effects.Grant.{Grant}
use Rattle.sl_trace.specs.declared.effects.JobReply.{JobReply}
use Rattle.sl_due_facts.specs.AddedEffects.OneMoreEffect.{with_reply}
use Rattle.sl_trace.specs.declared.effects.LeaseStep.TheVariants.{ClearMode, FreeLeader}
use Rattle.sl_trace.specs.declared.effects.Mode.TheVariants.{Exclusive, Shared}
use Rattle.sl_trace.specs.declared.effects.Mode.{Mode}
use Rattle.sl_trace.specs.declared.effects.Spot.{Spot}
use Rattle.sl_trace.specs.declared.effects.Work.TheVariants.{ForJob, Settling}
use Rattle.sl_trace.specs.declared.effects.Work.{Work}
use Rattle.sl_trace.specs.declared.input.Answer.{Answer}
use Rattle.sl_trace.specs.declared.input.Input.TheVariants.{Answer as Told}
use Rattle.sl_trace.specs.declared.reply.Reply.TheVariants.{Granted}
use Rattle.sl_words.proofs.CaseLaws.{false_is_true, none_some, some_value, true_is_false}
use Rattle.sl_words.specs.Words.{same_truth}
use Rattle.std.proofs.Common.{ap, inl, inr, refl, subst, sym, ◌∙◌}
use Rattle.std.specs.Prelude.{Bool, Contains, None, Option, Some, [], bytes_eq, false, filter, is_none, is_some, length, not, true, ℕ, ◌&&◌, ◌++◌, ◌+◌, ◌<◌, ◌==◌, ◌∷◌, ◌≡◌, ◌⊎◌}

-- ---- what a conversion leaves

abbrev told_entry : ℕ → Answer → Entry → Entry
told_entry n a e = record e { input = Told n a }

told_active : (st : Setting) (e : Entry) (past : Trace) (r : JobReply) (s : Session) (n : ℕ) (a : Answer) → is_active st (told_entry n a e ∷ past) s ≡ true → is_active st (with_reply r (told_entry n a e) ∷ past) s ≡ true
told_active st e past r s n a is =
    three (is_some (joined_after (told_entry n a e ∷ past) s)) (is_some (joined_after (with_reply r (told_entry n a e) ∷ past) s)) (is_none (removed_after (told_entry n a e ∷ past) s)) (is_none (recovery_of st (told_entry n a e ∷ past) s))
    (is_none (leaving_job st (told_entry n a e ∷ past) s)) (joined_more (told_entry n a e) past r s) is

pub replied_active : (st : Setting) (e : Entry) (past : Trace) (r : JobReply) (s : Session) (n : ℕ) (a : Answer) → e.input ≡ Told n a → is_active st (e ∷ past) s ≡ true → is_active st (with_reply r e ∷ past) s ≡ true
replied_active st e past r s n a told =
    subst (λ i. is_active st (record e { input = i } ∷ past) s ≡ true → is_active st (with_reply r (record e { input = i }) ∷ past) s ≡ true) (sym told) (told_active st e past r s n a)

abbrev ends_so : Mode → ℕ → Grant → Step → Step
ends_so mode lver g x = add_grant (record g { mode = mode; lver = lver }) (add_end (end_of g) x)

-- The calls stay.
turned_calls : (x : Step) (j : ℕ) (mode : Mode) (lver : ℕ) (g : Grant) → submitted (seen (convert_holding j mode lver g x)) ≡ submitted (seen x)
turned_calls x j mode lver g = reply_leaves (ends_so mode lver g x) j (Granted lver) (inl refl)

turned_may : (x : Step) (s : Session) (at : Spot) (n : ℕ) (a : Answer) (j : ℕ) (mode : Mode) (lver : ℕ) (g : Grant) → x.input ≡ Told n a → LeasesStand x → LeaseMay x s at → LeaseMay (convert_holding j mode lver g x) s at
turned_may x s at n a j mode lver g told stands h =
    let same : submitted (seen (convert_holding j mode lver g x)) ≡ submitted (seen x) = turned_calls x j mode lver g in
    let after : LeasesStand (convert_holding j mode lver g x) =
    replies_leave (ends_so mode lver g x) j (Granted lver) (inl refl) (grants_leave (add_end (end_of g) x) (record g { mode = mode; lver = lver }) (ends_leave x (end_of g) stands))
    in
    record {
      ready = record {
        has = h.ready.has;
        setting = h.ready.setting;
        aligned = h.ready.aligned;
        clear = λ m there none work spot. h.ready.clear m (subst (λ ms. Contains ms m) same there) none work spot;
        below = λ m there. subst (λ k. m.call.number < k) (sym (ap (λ ms. x.setting.first.call + length ms) same)) (h.ready.below m (subst (λ ms. Contains ms m) same there));
      };
      active = replied_active x.setting (entry_of (ends_so mode lver g x)) x.past (record { job = j; reply = Granted lver }) s n a told h.active;
      ways = after.ways.each s at (there_has x.setting (seen x) s.number s h.ready.has) h.ready.aligned;
    }

-- By whether something is converted.
pub turned_by : (P : Step → Type 0) (x : Step) (s : Session) (at : Spot) (j : ℕ) (mode : Mode) (lver : ℕ)
    → ((c : Command) (p : ℕ) (g : Grant) → command_numbered x.setting (seen x) j ≡ Some c → process_named c ≡ Some p → held_otherwise (seen x) s at p mode ≡ Some g → P (convert_holding j mode lver g x))
    → ((((c : Command) (p : ℕ) (g : Grant) → command_numbered x.setting (seen x) j ≡ Some c → process_named c ≡ Some p → held_otherwise (seen x) s at p mode ≡ Some g → ⊥)) → P x)
    → P (for_work (ForJob j) (λ j. with_command j (λ c. convert_for s at j c mode lver)) x)
turned_by P x s at j mode lver some none = by (command_numbered x.setting (seen x) j) refl where
  held : (c : Command) (p : ℕ) → command_numbered x.setting (seen x) j ≡ Some c → process_named c ≡ Some p → (o : Option Grant) → held_otherwise (seen x) s at p mode ≡ o → P (with_some o (convert_holding j mode lver) x)
  held c p command process None is =
      none (λ d q g command2 process2 found.
      let same : c ≡ d = some_value c d (sym command ∙ command2) in
      let same_p : p ≡ q = some_value p q (sym process ∙ (ap (λ z. process_named z) same ∙ process2)) in
      none_some g (sym is ∙ (ap (λ z. held_otherwise (seen x) s at z mode) same_p ∙ found)))
  held c p command process (Some g) is = some c p g command process is

  named : (c : Command) → command_numbered x.setting (seen x) j ≡ Some c → (o : Option ℕ) → process_named c ≡ o → P (with_some o (λ p y. with_some (held_otherwise (seen y) s at p mode) (convert_holding j mode lver) y) x)
  named c command None is = none (λ d q g command2 process2 found. none_some q (sym is ∙ (ap (λ z. process_named z) (some_value c d (sym command ∙ command2)) ∙ process2)))
  named c command (Some p) is = held c p command is (held_otherwise (seen x) s at p mode) refl

  by : (o : Option Command) → command_numbered x.setting (seen x) j ≡ o → P (with_some o (λ c. convert_for s at j c mode lver) x)
  by None is = none (λ d q g command2 process2 found. none_some d (sym is ∙ command2))
  by (Some c) is = named c is (process_named c) refl

-- ---- to exclusive

lease_same : (x z : Step) (s : Session) (at : Spot) → submitted (seen z) ≡ submitted (seen x) → lease_calls x.setting (seen z) s at ≡ lease_calls x.setting (seen x) s at
lease_same x z s at same = ap (λ ms. filter (λ (m : Submitted). is_lease_call m && is_on x.setting.layout at m.call) (filter (is_call_of s) ms)) same

cleared : (x : Step) (s : Session) (at : Spot) → LeaseMay x s at → (own b : Block) → block_submitted (lease_calls x.setting (seen x) s at) ≡ Some own → b ≡ moded_block own false 0 → x.effects.calls ≡ []
    → LawfulSoFar (write_block s at Settling ClearMode b x)
cleared x s at may own b knows is bare =
    blocks_stay x s at may Settling ClearMode b
    (λ c op. record { own = own; known = knows; wrote = op ∙ ap (λ z. WriteRecord (next_record x.setting (seen x) s at z)) is }, (ap (λ (z : Block). z.shared) is, ap (λ (z : Block). z.mode_gen) is)) (bare_lawful x bare)

pub exclusive_turns : (x : Step) (s : Session) (at : Spot) (work : Work) (n : ℕ) (a : Answer) → x.input ≡ Told n a → x.effects.calls ≡ [] → LeasesStand x → LeaseMay x s at → (lver : ℕ) (b : Block)
    → NextIs (moment_of x s at work) (BecomeExclusive lver b) → LawfulSoFar (carry_lease s at work (BecomeExclusive lver b) x)
unfolding carry_lease
exclusive_turns x s at Settling n a told bare stands may lver b fits = cleared x s at may fits.0 b fits.1 fits.2 bare
exclusive_turns x s at (ForJob j) n a told bare stands may lver b fits =
    turned_by (λ z. LawfulSoFar (write_block s at Settling ClearMode b z)) x s at j Exclusive lver
    (λ c p g command process found.
    cleared (convert_holding j Exclusive lver g x) s at (turned_may x s at n a j Exclusive lver g told stands may) fits.0 b
    (ap (λ ms. block_submitted ms) (lease_same x (convert_holding j Exclusive lver g x) s at (turned_calls x j Exclusive lver g)) ∙ fits.1) fits.2 bare)
    (λ none. cleared x s at may fits.0 b fits.1 fits.2 bare)

-- ---- to shared

other_than : (b : Bool) → not (same_truth b true) ≡ true → b ≡ false
other_than false is = refl
other_than true is = absurd (false_is_true is)

itself_ended : (g : Grant) → ((end_of g).process == g.process && same_place (end_of g).path (end_of g).offset g.path g.offset) ≡ true
itself_ended g = and_from (g.process == g.process) (same_place g.path g.offset g.path g.offset) (number_itself g.process) (and_from (g.offset == g.offset) (bytes_eq g.path g.path) (number_itself g.offset) ((bytes_eq-Decides g.path g.path).1 refl))

none_left : (x : Step) (s : Session) (at : Spot) (j lver : ℕ) (g : Grant) → x.effects.ends ≡ [] → x.effects.grants ≡ [] → HoldingFacts x.setting (seen x) (heard_by x.input) → HeldThere (seen x) s at g
    → (n : ℕ) → holds_under (seen (convert_holding j Shared lver g x)) s at n ≡ false
none_left x s at j lver g unended ungranted facts held n =
    unheld_if (seen (convert_holding j Shared lver g x)) s at n (λ h here on under.
    by h here (either_list (filter (λ (k : Grant). not (is_ended_by (x.effects.ends ++ end_of g ∷ []) k)) (holdings x.past)) (x.effects.grants ++ (record g { mode = Shared; lver = lver }) ∷ []) h here.there))
  where
    ended : (h : Grant) → h ≡ g → is_ended_by (x.effects.ends ++ end_of g ∷ []) h ≡ true
    ended h is =
        any_of (λ (e : End). e.process == h.process && same_place e.path e.offset h.path h.offset) (x.effects.ends ++ end_of g ∷ []) (end_of g)
        (subst (λ (k : Grant). ((end_of g).process == k.process && same_place (end_of g).path (end_of g).offset k.path k.offset) ≡ true) (sym is) (itself_ended g)) (Contains-push x.effects.ends (end_of g))

    by : (h : Grant) → HeldThere (seen (convert_holding j Shared lver g x)) s at h
        → Contains (filter (λ (k : Grant). not (is_ended_by (x.effects.ends ++ end_of g ∷ []) k)) (holdings x.past)) h ⊎ Contains (x.effects.grants ++ (record g { mode = Shared; lver = lver }) ∷ []) h → ⊥
    by h here (inl old) =
        let k = kept_inside (λ (k : Grant). not (is_ended_by (x.effects.ends ++ end_of g ∷ []) k)) (holdings x.past) h old in
        let there : Contains (holdings (seen x)) h =
        Contains-append_left (filter (λ (k : Grant). not (is_ended_by x.effects.ends k)) (holdings x.past)) x.effects.grants h
        (kept (λ (k : Grant). not (is_ended_by x.effects.ends k)) (holdings x.past) h (ap (λ es. not (is_ended_by es h)) unended) k.0)
        in
        let place : same_place h.path h.offset g.path g.offset ≡ true = subst (λ z. same_place h.path h.offset z.path z.base ≡ true) (sym (spot_same g at held.place)) here.place in
        true_is_false (sym k.1 ∙ ap (λ b. not b) (ended h (facts.alone g h held.there there place held.exclusive)))
    by h here (inr new) =
        elim (Contains-push_cases x.effects.grants (record g { mode = Shared; lver = lver }) h new) [
          | inl old ↦ contains_none h (subst (λ gs. Contains gs h) ungranted old)
          | inr is ↦ true_is_false (ap (λ (k : Grant). is_shared k.mode) is ∙ here.exclusive)
        ]

freed_at : (z x : Step) (s : Session) (at : Spot) (work : Work) → LeaseMay z s at → z.effects.calls ≡ [] → (l : Leader) → l.held ≡ false → LeaderIsOwn (moment_of z s at Settling) l → HasEnded z s at l.lver → holds_under (seen z) s at l.lver ≡ false
    → LawfulSoFar (write_leader s at Settling FreeLeader l z)
freed_at z x s at work may bare l free own ended unheld =
    leaders_stay z s at may Settling FreeLeader l
    (λ c op. record { leader = l; wrote = op; free = free; won = ended.0; concluded = ended.1; why = In_settling refl }, own) (λ f. unheld) (bare_lawful z bare)

own_still : (x z : Step) (s : Session) (at : Spot) (work : Work) (l : Leader) → z.setting ≡ x.setting → submitted (seen z) ≡ submitted (seen x) → LeaderIsOwn (moment_of x s at work) l → LeaderIsOwn (record { setting = x.setting; trace = seen z; session = s; at = at; work = Settling; now = length z.past }) l
unfolding known
own_still x z s at work l set same own =
    own ∙ ap (λ ms. let k : Leader = record {
      held = l.held;
      num_hosts = x.setting.layout.hosts;
      lver = l.lver;
      generation = generation_in s (filter (is_call_of s) ms);
      owner = s.id;
      lockspace = s.lockspace;
      resource = verified_name x.setting.layout s.lockspace (filter (λ (m : Submitted). is_lease_call m && is_on x.setting.layout at m.call) (filter (is_call_of s) ms));
    } in k) (sym same)

ended_same : (x z : Step) (s : Session) (at : Spot) (n : ℕ) → submitted (seen z) ≡ submitted (seen x) → HasEnded x s at n
    → Contains (ended_ballots x.setting.layout (lease_calls x.setting (seen z) s at)) (n, me (seen z) s) × (open_ballot x.setting.layout (lease_calls x.setting (seen z) s at) ≡ None)
ended_same x z s at n same h =
    subst (λ ms. Contains (ended_ballots x.setting.layout (filter (λ (m : Submitted). is_lease_call m && is_on x.setting.layout at m.call) (filter (is_call_of s) ms)))
    (n, record { id = s.id; generation = generation_in s (filter (is_call_of s) ms) })
    × (open_ballot x.setting.layout (filter (λ (m : Submitted). is_lease_call m && is_on x.setting.layout at m.call) (filter (is_call_of s) ms)) ≡ None)) (sym same) h

pub shared_turns : (x : Step) (s : Session) (at : Spot) (j : ℕ) (n : ℕ) (a : Answer) → x.input ≡ Told n a → x.effects.calls ≡ [] → x.effects.ends ≡ [] → x.effects.grants ≡ [] → LeasesStand x → LeaseMay x s at
    → HoldingFacts x.setting (seen x) (heard_by x.input) → (lver : ℕ) (l : Leader) → NextIs (moment_of x s at (ForJob j)) (BecomeShared lver l)
    → ((g : Grant) → HeldThere (seen x) s at g → (c : Command) × (command_numbered x.setting (seen x) j ≡ Some c) × (process_named c ≡ Some g.process))
    → LawfulSoFar (carry_lease s at (ForJob j) (BecomeShared lver l) x)
unfolding carry_lease
shared_turns x s at j n a told bare unended ungranted stands may facts lver l fits finds =
    turned_by (λ z. LawfulSoFar (write_leader s at Settling FreeLeader l z)) x s at j Shared lver
    (λ c p g command process found.
    let z : Step = convert_holding j Shared lver g x in
    let same : submitted (seen z) ≡ submitted (seen x) = turned_calls x j Shared lver g in
    let inside = find_inside (λ (k : Grant). k.process == p && not (same_truth (is_shared k.mode) true)) (holdings_on (seen x) s at) g found in
    let both = and_true (g.process == p) (not (same_truth (is_shared g.mode) true)) inside.1 in
    freed_at z x s at (ForJob j) (turned_may x s at n a j Shared lver g told stands may) bare l fits.2 (own_still x z s at (ForJob j) l refl same fits.1) (ended_same x z s at l.lver same ended)
    (none_left x s at j lver g unended ungranted facts (held_there (seen x) s at g inside.0 (other_than (is_shared g.mode) both.1)) l.lver))
    (λ none. absurd (holder_found none))
  where
    ended : HasEnded x s at l.lver
    ended = subst (λ k. HasEnded x s at k) (sym fits.3) (exclusive_stands x s at lver may.ready.has facts fits.0)

    holder_found : ((c : Command) (p : ℕ) (g : Grant) → command_numbered x.setting (seen x) j ≡ Some c → process_named c ≡ Some p → held_otherwise (seen x) s at p Shared ≡ Some g → ⊥) → ⊥
    holder_found none =
        let found = mapped_value (λ (g : Grant). g.lver) (exclusive_on (seen x) s at) lver fits.0 in
        let g : Grant = found.0 in
        let inside = find_inside (λ (k : Grant). not (is_shared k.mode)) (holdings_on (seen x) s at) g found.1 in
        let exclusive : is_shared g.mode ≡ false = not_true (is_shared g.mode) inside.1 in
        let f = finds g (held_there (seen x) s at g inside.0 exclusive) in
        by f.0 g f.1 f.2 inside.0 exclusive (held_otherwise (seen x) s at g.process Shared) refl
      where
        by : (c : Command) (g : Grant) → command_numbered x.setting (seen x) j ≡ Some c → process_named c ≡ Some g.process → Contains (holdings_on (seen x) s at) g → is_shared g.mode ≡ false → (o : Option Grant) → held_otherwise (seen x) s at g.process Shared ≡ o → ⊥
        by c g command process on exclusive (Some k) is = none c g.process k command process is
        by c g command process on exclusive None is =
            true_is_false (sym (and_from (g.process == g.process) (not (same_truth (is_shared g.mode) true)) (number_itself g.process) (ap (λ b. not (same_truth b true)) exclusive))
            ∙ find_fails (λ (k : Grant). k.process == g.process && not (same_truth (is_shared k.mode) true)) (holdings_on (seen x) s at) g is on)
