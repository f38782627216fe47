-- What a command line makes due is allowed: its job is new.
use Rattle.sl_trace.specs.declared.lease.Aim.TheVariants.{Converts}
use Rattle.sl_due_facts.proofs.Acts.DecisionsAreTheirs.{Of}
use Rattle.sl_due_facts.proofs.Acts.Pairs.Decisions.{within_cases}
use Rattle.sl_due_facts.specs.Acts.Acts.{Has, next_of_conversion, next_of_release}
use Rattle.sl_area.specs.AreaSizes.{Layout}
use Rattle.sl_area.specs.AreaLayout.{is_base, value_offset}
use Rattle.sl_due.specs.Steps.{Step, add_end, seen, with_input}
use Rattle.sl_due.specs.declared.decision.Decision.{Decision}
use Rattle.sl_due.specs.declared.decision.Decision.TheVariants.{ConvertsTo, GetsValue, GivesUp, Joins, Leaves, ReadsArea, Replies, Requests, SetsValue, Shares, TakesOver}
use Rattle.sl_due_facts.proofs.Jobs.CallsHaveFacts.{calls_before, calls_told}
use Rattle.sl_due_facts.proofs.Jobs.CallsStandInAreas.{Roomy, base_whole, roomy, stands_in}
use Rattle.sl_due_facts.proofs.Jobs.CallsStay.{IsLate}
use Rattle.sl_due_facts.proofs.Jobs.DecisionsFit.{DecisionFits, IsOnResource}
use Rattle.sl_due_facts.proofs.Jobs.EffectsAreAllowed.{DecisionAllowed, GrantAllowed}
use Rattle.sl_due_facts.proofs.Jobs.JobFactsGrow.{Both, CallFits, IsFree, IsNumbered}
use Rattle.sl_due_facts.proofs.Jobs.JobsAreAllowed.{MayCall, MayReply, MayStart, Meanwhile, caller_numbered, late_unless_told, starts_nothing, stops_allowed}
use Rattle.sl_due_facts.proofs.Jobs.JobsAreNumbered.{line_seen, next_is_new}
use Rattle.sl_due_facts.proofs.Jobs.LeaseCallsFit.{AsksFor, Works, asks_apart, grant_allowed, session_host, work_allowed}
use Rattle.sl_due_facts.proofs.Jobs.RepliesComeAfter.{mapped_or, release_within}
use Rattle.sl_run.specs.Lawful.{IsSetting}
use Rattle.sl_trace.specs.Ballots.{moded_block}
use Rattle.sl_trace.specs.Jobs.{aim_of_command, command_numbered, command_of, resource_named}
use Rattle.sl_trace.specs.LeaseDecisions.{LeasePlace, lease_place, within_turn}
use Rattle.sl_trace.specs.Conversions.{convert_next}
use Rattle.sl_trace.specs.Leases.{LeaseKnown, holdings_on, known, spot_of}
use Rattle.sl_trace.specs.declared.lease.LeaseNext.{LeaseNext}
use Rattle.sl_trace.specs.declared.lease.LeaseNext.TheVariants.{Nothing as No_lease, ReadFor, WriteBlock}
use Rattle.sl_words.proofs.Lists.{find_inside, got_inside, kept_inside}
use Rattle.sl_words.proofs.Numbers.{plus_zero}
use Rattle.sl_words.proofs.Options.{some_of}
use Rattle.sl_sector.specs.declared.sector.Rec.TheVariants.{ValueIs}
use Rattle.sl_trace.specs.Sessions.{holdings_of, present_sessions, session_named, sessions}
use Rattle.sl_trace.specs.declared.session.Session.{Session}
use Rattle.sl_due_facts.specs.Facts.JobFacts.{FitsCommand, IsOfResource}
use Rattle.sl_trace.specs.CommandForms.{IsCommand}
use Rattle.sl_trace.specs.Traces.{Setting, Submitted, Trace, end_of, job_numbered, job_of, next_job, same_place, spot_of_grant, submitted}
use Rattle.sl_trace.specs.declared.command.Command.{Command}
use Rattle.sl_trace.specs.declared.command.Command.TheVariants.{Acquire, AddLockspace, Convert, GetLvb, HostStatus, InqLockspace, Release, ReleaseOrphan, RemLockspace, Request, RunProgram, SetKillpath, SetLvb, Status, TakeOver}
use Rattle.sl_trace.specs.declared.command.ResourceArg.{ResourceArg}
use Rattle.sl_trace.specs.declared.effects.Grant.{Grant}
use Rattle.sl_trace.specs.declared.effects.LeaseStep.TheVariants.{ReadArea, SetMode}
use Rattle.sl_trace.specs.declared.effects.Mode.{Mode}
use Rattle.sl_trace.specs.declared.effects.Mode.TheVariants.{Exclusive, Shared}
use Rattle.sl_trace.specs.declared.effects.Op.TheVariants.{ReadSectors, WriteRecord}
use Rattle.sl_trace.specs.declared.effects.Purpose.{Purpose}
use Rattle.sl_trace.specs.declared.effects.Purpose.TheVariants.{RequestRead, ValueRead, ValueWrite}
use Rattle.sl_trace.specs.declared.effects.Spot.{Spot}
use Rattle.sl_trace.specs.declared.input.Input.TheVariants.{Line, Wake}
use Rattle.sl_trace.specs.declared.reply.Reply.{Reply}
use Rattle.sl_trace.specs.declared.reply.Reply.TheVariants.{Done, Granted}
use Rattle.sl_words.proofs.CaseLaws.{none_some, some_value}
use Rattle.sl_words.proofs.WordLaws.{and_true}
use Rattle.std.proofs.Common.{ap, ap₂, arith, inl, inr, refl, subst, sym, ◌∙◌}
use Rattle.std.proofs.lemmas.Bool.{eqb-true}
use Rattle.std.proofs.lemmas.Slice.Eq.{bytes_eq-Decides}
use Rattle.std.specs.Prelude.{Contains, IsSome, IsTrue, List, Ok, Result, Some, [], bytes_eq, length, option_and_then, true, ℕ, ◌+◌, ◌-◌, ◌<◌, ◌==◌, ◌≡◌, ◌⊎◌}

-- The step with its line seen.
abbrev lined : List ℕ → Step → Step
lined text x = with_input (Line text) x

pub new_numbered : (x : Step) (text : List ℕ) → x.input ≡ Wake → IsNumbered (with_input (Line text) x) (next_job x.setting (seen x))
new_numbered x text wake = subst (λ o. IsSome o) (sym (line_seen x text wake)) refl

pub new_command : (x : Step) (text : List ℕ) (c : Command) → x.input ≡ Wake → x.setting.read text ≡ Ok c
    → command_numbered x.setting (seen (with_input (Line text) x)) (next_job x.setting (seen x)) ≡ Some c
new_command x text c wake says =
    ap (λ o. option_and_then command_of o) (line_seen x text wake)
    ∙ ap (λ (o : Result Command ℕ). command_of (record { number = next_job x.setting (seen x); at = length x.past; reading = x.reading; command = o })) says

pub new_free : (x : Step) (text : List ℕ) → Both x → x.input ≡ Wake → x.effects.calls ≡ [] → IsFree (with_input (Line text) x) (next_job x.setting (seen x))
new_free x text h wake bare m there none of =
    let now : Contains (submitted (seen x)) m = subst (λ ms. Contains ms m) (calls_told x (Line text) bare ∙ sym (calls_before x wake bare)) there in
    let numbered = some_of (job_numbered x.setting (seen x) (next_job x.setting (seen x))) (caller_numbered x m (next_job x.setting (seen x)) h now of) in
    none_some numbered.0 (sym (next_is_new x.setting (seen x)) ∙ numbered.1)

pub late_on_line : (x : Step) (text : List ℕ) (r : Reply) → IsLate (with_input (Line text) x) r
late_on_line x text r = late_unless_told (with_input (Line text) x) r refl

-- ---- a command's resource stands at a base

resource_base : (g : Layout) (c : Command) (r : ResourceArg) → IsCommand g c → resource_named c ≡ Some r → IsTrue (is_base g r.offset)
resource_base g (Acquire q shared p persistent) r is names = subst (λ (z : ResourceArg). IsTrue (is_base g z.offset)) (some_value q r names) is.0.base
resource_base g (TakeOver q shared p persistent) r is names = subst (λ (z : ResourceArg). IsTrue (is_base g z.offset)) (some_value q r names) is.0.base
resource_base g (Release q p) r is names = subst (λ (z : ResourceArg). IsTrue (is_base g z.offset)) (some_value q r names) is.0.base
resource_base g (ReleaseOrphan q) r is names = subst (λ (z : ResourceArg). IsTrue (is_base g z.offset)) (some_value q r names) is.base
resource_base g (Convert q shared p) r is names = subst (λ (z : ResourceArg). IsTrue (is_base g z.offset)) (some_value q r names) is.0.base
resource_base g (RunProgram q shared path) r is names = subst (λ (z : ResourceArg). IsTrue (is_base g z.offset)) (some_value q r names) is.0.base
resource_base g (Request q lver force) r is names = subst (λ (z : ResourceArg). IsTrue (is_base g z.offset)) (some_value q r names) is.0.base
resource_base g (GetLvb q p) r is names = subst (λ (z : ResourceArg). IsTrue (is_base g z.offset)) (some_value q r names) is.0.base
resource_base g (SetLvb q p bytes) r is names = subst (λ (z : ResourceArg). IsTrue (is_base g z.offset)) (some_value q r names) is.0.base
resource_base g (AddLockspace a) r is names = absurd (none_some r names)
resource_base g (RemLockspace a) r is names = absurd (none_some r names)
resource_base g (InqLockspace a) r is names = absurd (none_some r names)
resource_base g (HostStatus a) r is names = absurd (none_some r names)
resource_base g (SetKillpath p path) r is names = absurd (none_some r names)
resource_base g Status r is names = absurd (none_some r names)

pub named_lockspace : (st : Setting) (es : Trace) (name : List ℕ) (s : Session) → session_named st es name ≡ Some s → name ≡ s.lockspace
named_lockspace st es name s is = sym ((bytes_eq-Decides s.lockspace name).0 (find_inside (λ (z : Session). bytes_eq z.lockspace name) (present_sessions st es) s is).1)

-- The new job works on the command's resource.
new_works : (x : Step) (text : List ℕ) (c : Command) (s : Session) (r : ResourceArg) → IsSetting x.setting → Both x → x.input ≡ Wake → x.effects.calls ≡ [] → x.setting.read text ≡ Ok c
    → Has (with_input (Line text) x) s → IsOnResource x.setting (seen x) s r c → IsSome (aim_of_command c) → Works (with_input (Line text) x) s (spot_of r) (next_job x.setting (seen x))
new_works x text c s r setting h wake bare says has on aims =
    record {
      has = has;
      free = new_free x text h wake bare;
      command = c;
      reads = new_command x text c wake says;
      resource = r;
      names = on.0;
      aims = aims;
      lockspace = named_lockspace x.setting (seen x) r.lockspace s on.1;
      spot = refl;
      whole = base_whole x.setting.layout r.offset (resource_base x.setting.layout c r (setting.reads text c says) on.0);
      room = roomy x.setting setting;
      host = session_host x.setting (seen (with_input (Line text) x)) s setting (got_inside (sessions x.setting (seen (with_input (Line text) x))) s.number s has);
    }

-- A call for a request or a value.
other_call : (x : Step) (text : List ℕ) (c : Command) (s : Session) (r : ResourceArg) (p : Purpose) (o d i : ℕ) → IsSetting x.setting → Both x → x.input ≡ Wake → x.effects.calls ≡ [] → x.setting.read text ≡ Ok c
    → IsOnResource x.setting (seen x) s r c → d < x.setting.layout.area → o ≡ r.offset + d → job_of p ≡ Some (next_job x.setting (seen x))
    → ((m : Submitted) → IsOfResource x.setting s m r → FitsCommand x.setting s m c p) → job_of p ≡ Some i → CallFits (with_input (Line text) x) s r.path p o i
other_call x text c s r p o d i setting h wake bare says on less stands its fits of =
    subst (λ n. CallFits (with_input (Line text) x) s r.path p o n) (some_value (next_job x.setting (seen x)) i (sym its ∙ of)) (record {
      command = c;
      reads = new_command x text c wake says;
      free = new_free x text h wake bare;
      fits = λ m path at. fits m (
        named_lockspace x.setting (seen x) r.lockspace s on.1,
        stands_in x.setting.layout m (spot_of r) d (base_whole x.setting.layout r.offset (resource_base x.setting.layout c r (setting.reads text c says) on.0)) less path (at ∙ stands),
      );
    })

held_spot : (es : Trace) (s : Session) (at : Spot) (g : Grant) → Contains (holdings_on es s at) g → spot_of_grant g ≡ at
held_spot es s at g there =
    let same = (kept_inside (λ (z : Grant). same_place z.path z.offset at.path at.base) (holdings_of es s) g there).1 in
    let both = and_true (g.offset == at.base) (bytes_eq g.path at.path) same in
    ap₂ (λ p n. spot_at p n) ((bytes_eq-Decides g.path at.path).0 both.1) (eqb-true g.offset at.base both.0)
  where
    spot_at : List ℕ → ℕ → Spot
    spot_at p n = record { path = p; base = n }

convert_asks : (r : ResourceArg) (k : LeaseKnown) (mode : Mode) → AsksFor r (convert_next k mode r.name)
convert_asks r k Shared = mapped_or (AsksFor r) (λ own. WriteBlock SetMode (moded_block own true k.self.generation)) k.own No_lease (λ own. tt) tt
convert_asks r k Exclusive = refl

abbrev pub IsBegun : Decision → Type 0
IsBegun (Joins n a) = Unit {0}
IsBegun d = ⊥

last_low : {g : Layout} → Roomy g → g.area - g.sector < g.area
last_low {g} h = let some : 0 < g.sector = h.some in let whole : 0 < g.area = h.whole in omega (arith, some, whole)

last_is : (g : Layout) (base : ℕ) → Roomy g → base + g.area - g.sector ≡ base + (g.area - g.sector)
last_is g base h = let two : g.sector < g.area = h.two in omega (arith, two)

shares_allowed : (x : Step) (text : List ℕ) (c : Command) (lver : ℕ) → x.input ≡ Wake → x.setting.read text ≡ Ok c → GrantAllowed (MayReply (with_input (Line text) x)) (MayStart (with_input (Line text) x)) (next_job x.setting (seen x)) lver c
shares_allowed x text c lver wake says =
    grant_allowed (with_input (Line text) x) (next_job x.setting (seen x)) lver c (new_numbered x text wake, late_on_line x text (Granted lver)) (new_command x text c wake says)

convert_within : (r : ResourceArg) (p : LeasePlace) (k : LeaseKnown) (mode : Mode) → AsksFor r (within_turn p k (Converts mode) (convert_next k mode r.name))
convert_within r p k mode = within_cases (AsksFor r) p k (Converts mode) (convert_next k mode r.name) (λ fits. convert_asks r k mode) (λ paired over writes. tt)

-- All decisions but one that begins a session.
pub decision_allowed : (x : Step) (text : List ℕ) (c : Command) (d : Decision) → IsSetting x.setting → Both x → x.input ≡ Wake → x.effects.calls ≡ [] → x.setting.read text ≡ Ok c → Of (Has (with_input (Line text) x)) d
    → DecisionFits x.setting (seen x) c d → IsBegun d ⊎ DecisionAllowed (Meanwhile (with_input (Line text) x)) (MayReply (with_input (Line text) x)) (MayCall (with_input (Line text) x)) (MayStart (with_input (Line text) x)) (with_input (Line text) x) (next_job x.setting (seen x)) c d
unfolding new_works
decision_allowed x text c (Replies r) setting h wake bare says has fits = inr tt
decision_allowed x text c (Joins n a) setting h wake bare says has fits = inl tt
decision_allowed x text c (Leaves s) setting h wake bare says has fits =
    let w : Step = with_input (Line text) x in inr (starts_nothing w, λ z k j there. stops_allowed w s (λ r. late_on_line x text r) z k j there)
decision_allowed x text c (ReadsArea s r) setting h wake bare says has fits =
    let w : Step = with_input (Line text) x in
    inr (work_allowed w w s (spot_of r) (next_job x.setting (seen x)) (ReadFor (ReadArea r.name)) refl (λ i k reads. reads) (new_works x text c s r setting h wake bare says has fits.1 fits.2) refl (λ q is. late_on_line x text q))
decision_allowed x text c (Shares s lver) setting h wake bare says has fits = inr (shares_allowed x text c lver wake says)
decision_allowed x text c (GivesUp s g) setting h wake bare says has fits =
    let w : Step = with_input (Line text) x in
    let y : Step = add_end (end_of g) w in
    let r : ResourceArg = fits.1.0 in
    let j : ℕ = next_job x.setting (seen x) in
    let n : LeaseNext = next_of_release x.setting (seen y) s (spot_of_grant g) g in
    let works : Works w s (spot_of_grant g) j = subst (λ at. Works w s at j) (sym (held_spot (seen x) s (spot_of r) g fits.1.3)) (new_works x text c s r setting h wake bare says has fits.1.1 fits.1.2) in
    inr (
      (new_numbered x text wake, late_on_line x text Done),
      work_allowed w y s (spot_of_grant g) j n refl (λ i k reads. reads) works (asks_apart works.resource n (release_within (lease_place x.setting s) (known x.setting (seen y) s (spot_of_grant g)) g.mode g.lver)) (λ q is. late_on_line x text q),
    )
decision_allowed x text c (TakesOver s g) setting h wake bare says has fits = inr (shares_allowed x text c g.lver wake says)
decision_allowed x text c (ConvertsTo s r mode) setting h wake bare says has fits =
    let w : Step = with_input (Line text) x in
    let works : Works w s (spot_of r) (next_job x.setting (seen x)) = new_works x text c s r setting h wake bare says has fits.1 fits.2 in
    inr (work_allowed w w s (spot_of r) (next_job x.setting (seen x)) (next_of_conversion x.setting (seen w) s (spot_of r) mode r.name) refl (λ i k reads. reads) works (convert_within r (lease_place x.setting s) (known x.setting (seen w) s (spot_of r)) mode) (λ q is. late_on_line x text q))
decision_allowed x text c (Requests s r) setting h wake bare says has fits =
    inr (
      has,
      λ i of. other_call x text c s r (RequestRead (next_job x.setting (seen x))) r.offset 0 i setting h wake bare says fits.1 (roomy x.setting setting).whole (plus_zero r.offset) refl
          (λ m its. (r, fits.2.0, fits.2.1, fits.2.2, its)) of,
    )
decision_allowed x text c (SetsValue s at v) setting h wake bare says has fits =
    let r : ResourceArg = fits.1.0 in
    let w : Step = with_input (Line text) x in
    let j : ℕ = next_job x.setting (seen x) in
    inr (subst (λ (z : Spot). MayCall w s z.path (ValueWrite j) (value_offset x.setting.layout z.base) (WriteRecord (ValueIs v))) (sym fits.1.2) (
      has,
      λ i of. other_call x text c s r (ValueWrite j) (value_offset x.setting.layout r.offset) (x.setting.layout.area - x.setting.layout.sector) i setting h wake bare says fits.1.1 (last_low (roomy x.setting setting))
          (last_is x.setting.layout r.offset (roomy x.setting setting)) refl (λ m its. (r, fits.1.3.0, fits.1.3.1, fits.1.3.2, its)) of,
    ))
decision_allowed x text c (GetsValue s at) setting h wake bare says has fits =
    let r : ResourceArg = fits.1.0 in
    let w : Step = with_input (Line text) x in
    let j : ℕ = next_job x.setting (seen x) in
    inr (subst (λ (z : Spot). MayCall w s z.path (ValueRead j) (value_offset x.setting.layout z.base) (ReadSectors 1)) (sym fits.1.2) (
      has,
      λ i of. other_call x text c s r (ValueRead j) (value_offset x.setting.layout r.offset) (x.setting.layout.area - x.setting.layout.sector) i setting h wake bare says fits.1.1 (last_low (roomy x.setting setting))
          (last_is x.setting.layout r.offset (roomy x.setting setting)) refl (λ m its. (r, fits.1.3.0, fits.1.3.1, its)) of,
    ))
