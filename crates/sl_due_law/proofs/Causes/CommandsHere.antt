-- A command at its line, in the entry that the line brings: its job, the session of its resource, what that holds, and the turn that its
-- calls have shown it, which what is called in the entry leaves as it was.
use Rattle.sl_due_facts.specs.Acts.TraceSoFar.{entry_of}
use Rattle.sl_area.specs.AreaSizes.{Layout}
use Rattle.sl_area.specs.Pairs.{pair_read}
use Rattle.sl_due.specs.DueCommands.{carry_decision}
use Rattle.sl_due.specs.DueWake.{finish}
use Rattle.sl_due.specs.Steps.{Step, add_end, seen, with_input}
use Rattle.sl_due.specs.declared.decision.Decision.TheVariants.{GivesUp}
use Rattle.sl_due_facts.proofs.Jobs.SessionsArePresent.{present_is}
use Rattle.sl_due_facts.specs.Facts.AllFacts.{WholeTrace}
use Rattle.sl_due_law.proofs.Causes.HeadsAreEarly.{last_is_silent}
use Rattle.sl_due_law.proofs.Causes.Leases.GrantCauses.{held_early, held_past}
use Rattle.sl_due_law.proofs.Causes.Leases.Limits.{not_number}
use Rattle.sl_due_law.proofs.Causes.LeavingsRefuse.{first_of, joined_past}
use Rattle.sl_due_law.proofs.Causes.NamesBefore.{session_then}
use Rattle.sl_due_law.proofs.Causes.ReleasedAtLines.{GivenUp, given_up}
use Rattle.sl_due_law.proofs.Causes.WakeCauses.{sessions_wake}
use Rattle.sl_due_law.specs.Causes.LineCauses.{IsBeforeInput, at_its_line}
use Rattle.sl_due_leases.proofs.Holdings.LeaseConversions.{spot_is}
use Rattle.sl_due_leases.proofs.Holdings.PlainPlaces.{text_is}
use Rattle.sl_due_leases.specs.Holdings.DecisionGrounds.{GiveUpGrounds, IsReady}
use Rattle.sl_words.proofs.Lists.{find_inside, kept_inside}
use Rattle.sl_run.specs.Caused.{before_entry, the_session}
use Rattle.sl_sector.specs.declared.sector.PairBlock.{PairBlock}
use Rattle.sl_trace.specs.Jobs.{lockspace_named}
use Rattle.sl_trace.specs.Leases.{base_turn, blocks_bytes, holdings_on, is_lease_call, is_on, known, lease_calls, spot_of, turn_shown, turn_written}
use Rattle.sl_trace.specs.Sessions.{holdings_of, is_call_of, is_joined, leaving_job, present_sessions, recovery_of, sessions}
use Rattle.sl_trace.specs.Traces.{Job, Setting, Submitted, Trace, end_of, holdings, is_answered_ok, is_before_input, is_ended_by, mark, new_call, next_job, same_place, spot_of_grant, submitted}
use Rattle.sl_trace.specs.declared.command.Command.{Command}
use Rattle.sl_trace.specs.declared.command.ResourceArg.{ResourceArg}
use Rattle.sl_trace.specs.declared.effects.Call.{Call}
use Rattle.sl_trace.specs.declared.effects.Effects.{Effects}
use Rattle.sl_trace.specs.declared.effects.Entry.{Entry}
use Rattle.sl_trace.specs.declared.effects.Grant.{Grant}
use Rattle.sl_trace.specs.declared.effects.JobReply.{JobReply}
use Rattle.sl_trace.specs.declared.effects.Spot.{Spot}
use Rattle.sl_trace.specs.declared.effects.Start.{Start}
use Rattle.sl_trace.specs.declared.input.Input.TheVariants.{Line}
use Rattle.sl_trace.specs.declared.session.Session.{Session}
use Rattle.sl_words.specs.Bounds.{is_number, record_numbers}
use Rattle.sl_words.specs.Words.{choose}
use Rattle.std.proofs.Common.{ap, refl, subst, sym, ◌∙◌}
use Rattle.std.specs.Prelude.{Bool, Contains, List, None, Ok, Option, Some, [], bytes_eq, cond, false, filter, fold, is_none, is_some, length, not, option_and_then, option_map, true, ℕ, ◌&&◌, ◌++◌, ◌+◌, ◌==◌, ◌∷◌, ◌≡◌, ◌≤◌}

-- ---- its job and its session

pub record CommandHere (st : Setting) (past : Trace) (e : Entry) (text : List ℕ) (c : Command) (j : Job) : Type 0 where
  pub whole : WholeTrace st past
  -- the step where it is decided
  pub first : Step
  pub head : IsBeforeInput st past e.reading first
  pub line : e.input ≡ Line text
  pub says : st.read text ≡ Ok c
  pub own : record { number = next_job st past; at = length past; reading = e.reading; command = st.read text } ≡ j

pub job_at : (st : Setting) (past : Trace) (e : Entry) (text : List ℕ) (c : Command) (j : Job) → CommandHere st past e text c j → j.at ≡ length past
job_at st past e text c j h = ap (λ (k : Job). k.at) (sym h.own)

pub job_says : (st : Setting) (past : Trace) (e : Entry) (text : List ℕ) (c : Command) (j : Job) → CommandHere st past e text c j → j.command ≡ Ok c
job_says st past e text c j h = ap (λ (k : Job). k.command) (sym h.own) ∙ h.says

-- The session that the command found active.
pub session_here : (st : Setting) (past : Trace) (e : Entry) (text : List ℕ) (c : Command) (j : Job) → (h : CommandHere st past e text c j) → (s : Session) (r : ResourceArg) → lockspace_named c ≡ Some r.lockspace
    → IsReady h.first.setting (seen h.first) s r → the_session (at_its_line st past e j) ≡ Some s
session_here st past e text c j h s r names ready =
    session_then (at_its_line st past e j) c s h.whole before joined (job_says st past e text c j h) (names ∙ ap (λ k. Some k) (sym (text_is s.lockspace r.lockspace inside.1)))
  where
    x : Step
    x = h.first

    head : IsBeforeInput st past e.reading x
    head = h.head

    inside : Contains (present_sessions x.setting (seen x)) s × (bytes_eq s.lockspace r.lockspace ≡ true)
    inside = find_inside (λ (q : Session). bytes_eq q.lockspace r.lockspace) (present_sessions x.setting (seen x)) s ready.named

    before : Contains (sessions st past) s
    before =
        subst (λ ss. Contains ss s) (sessions_wake x head.early.wake ∙ (ap (λ g. sessions g x.past) head.setting ∙ ap (λ p. sessions st p) head.before))
        (present_is x.setting (seen x) s inside.0).0

    joined : is_joined past s ≡ true
    joined =
        subst (λ p. is_joined p s ≡ true) head.before (joined_past x.past (entry_of x) s head.replies
        (first_of (is_joined (seen x) s) (is_none (recovery_of x.setting (seen x) s)) (is_none (leaving_job x.setting (seen x) s)) ready.active))

-- What it holds where the command is decided it held before the entry.
pub held_here : (st : Setting) (past : Trace) (e : Entry) (text : List ℕ) (c : Command) (j : Job) → (h : CommandHere st past e text c j) → (s : Session) (at : Spot) (g : Grant)
    → Contains (holdings_on (seen h.first) s at) g → Contains (holdings_on (before_entry (at_its_line st past e j)) s at) g
held_here st past e text c j h s at g held =
    subst (λ hs. Contains (filter (λ (q : Grant). same_place q.path q.offset at.path at.base) (filter (λ (q : Grant). q.session == s.number) hs)) g) same held
  where
    x : Step
    x = h.first

    head : IsBeforeInput st past e.reading x
    head = h.head

    same : holdings (seen x) ≡ holdings (before_entry (at_its_line st past e j))
    same =
        held_past x head.early.unended head.early.ungranted ∙ (ap (λ p. holdings p) head.before
        ∙ sym (held_early past e.reading (filter (λ (k : Start). is_some k.stands_for) e.effects.starts) (filter (λ (b : JobReply). is_before_input b.reply) e.effects.replies)))

-- ---- where it gives a holding up

pub record GivenHere (st : Setting) (past : Trace) (e : Entry) (text : List ℕ) (j : Job) (x : Step) (s : Session) (r : ResourceArg) (g : Grant) : Type 0 where
  pub session : the_session (at_its_line st past e j) ≡ Some s
  pub place : same_place g.path g.offset r.path r.offset ≡ true
  pub ends : e.effects.ends ≡ x.effects.ends ++ end_of g ∷ []
  -- what it has left there is left at the entry's end
  pub left : holdings_on (seen (add_end (end_of g) (with_input (Line text) x))) s (spot_of_grant g) ≡ holdings_on (e ∷ past) s (spot_of r)

pub given_here : (st : Setting) (past : Trace) (e : Entry) (text : List ℕ) (c : Command) (j : Job) → (h : CommandHere st past e text c j) → let x : Step = h.first in let n : ℕ = next_job x.setting (seen x) in
    (s : Session) (g : Grant) → (u : GiveUpGrounds x.setting (seen x) c s g) → lockspace_named c ≡ Some u.resource.lockspace
    → e.effects ≡ (finish (carry_decision n c (GivesUp s g) (with_input (Line text) x))).effects → GivenHere st past e text j x s u.resource g
given_here st past e text c j h s g u names done =
    record {
      session = session_here st past e text c j h s r names u.ready;
      place = place;
      ends = ends;
      left =
          ap (λ hs. filter (λ (q : Grant). same_place q.path q.offset g.path g.offset) (filter (λ (q : Grant). q.session == s.number) hs)) held
          ∙ ap (λ at. holdings_on (e ∷ past) s at) (spot_is g (spot_of r) place);
    } where
      x : Step
      x = h.first

      v : Step
      v = with_input (Line text) x

      n : ℕ
      n = next_job x.setting (seen x)

      r : ResourceArg
      r = u.resource

      all : GivenUp n s g v (carry_decision n c (GivesUp s g) v)
      all = given_up n c s g v

      place : same_place g.path g.offset r.path r.offset ≡ true
      place = (kept_inside (λ (h : Grant). same_place h.path h.offset r.path r.offset) (holdings_of (seen x) s) g u.held).1

      ends : e.effects.ends ≡ x.effects.ends ++ end_of g ∷ []
      ends = ap (λ (f : Effects). f.ends) done ∙ ((last_is_silent (carry_decision n c (GivesUp s g) v)).ends ∙ all.ends)

      grants : e.effects.grants ≡ x.effects.grants
      grants = ap (λ (f : Effects). f.grants) done ∙ ((last_is_silent (carry_decision n c (GivesUp s g) v)).grants ∙ all.grants)

      held : holdings (seen (add_end (end_of g) v)) ≡ holdings (e ∷ past)
      held =
          ap (λ t. filter (λ h. not (is_ended_by (x.effects.ends ++ end_of g ∷ []) h)) (holdings t) ++ x.effects.grants) h.head.before
          ∙ (ap (λ es. filter (λ h. not (is_ended_by es h)) (holdings past) ++ x.effects.grants) (sym ends)
          ∙ ap (λ gs. filter (λ h. not (is_ended_by e.effects.ends h)) (holdings past) ++ gs) (sym grants))

-- ---- the turn that was shown last

-- A call that was just made shows none.
new_shows : (g : Layout) (id at reading : ℕ) (c : Call) → turn_shown g id (new_call at reading c) ≡ None
new_shows g id at reading c = by (turn_written m) g.paired where
  m : Submitted
  m = new_call at reading c

  by : (o : Option ℕ) (paired : Bool)
      → elim o as (λ z. Option ℕ) [
        | Some t ↦ choose (is_answered_ok m) t
        | None ↦ elim paired as (λ z. Option ℕ) [ false ↦ None | true ↦ option_and_then (λ bs. option_map (λ (p : PairBlock). p.turn) (pair_read g bs id)) (blocks_bytes g m) ]
      ] ≡ None
  by (Some t) paired = refl
  by None false = refl
  by None true = refl

new_keeps : (g : Layout) (id : ℕ) (P Q : Submitted → Bool) (at reading : ℕ) (cs : List Call) (ms : List Submitted)
    → base_turn g id (filter P (filter Q (fold (λ ms c. new_call at reading c ∷ ms) ms cs))) ≡ base_turn g id (filter P (filter Q ms))
new_keeps g id P Q at reading [] ms = refl
new_keeps g id P Q at reading (c ∷ cs) ms = new_keeps g id P Q at reading cs (m ∷ ms) ∙ by (Q m) where
  m : Submitted
  m = new_call at reading c

  passed : (b : Bool) → base_turn g id (cond b (m ∷ filter P (filter Q ms)) (filter P (filter Q ms))) ≡ base_turn g id (filter P (filter Q ms))
  passed false = refl
  passed true = ap (λ o. elim o as (λ z. ℕ) [ Some t ↦ t | None ↦ base_turn g id (filter P (filter Q ms)) ]) (new_shows g id at reading c)

  by : (b : Bool) → base_turn g id (filter P (cond b (m ∷ filter Q ms) (filter Q ms))) ≡ base_turn g id (filter P (filter Q ms))
  by false = refl
  by true = passed (P m)

-- An entry that answers no call shows no turn.
turn_line : (st : Setting) (past : Trace) (e : Entry) (text : List ℕ) (s : Session) (at : Spot) → e.input ≡ Line text → base_turn st.layout s.id (lease_calls st (e ∷ past) s at) ≡ base_turn st.layout s.id (lease_calls st past s at)
turn_line st past e text s at line =
    ap (λ i. base_turn st.layout s.id (filter on (filter (is_call_of s) (fold (λ ms c. new_call (length past) e.reading c ∷ ms) (mark past e i (submitted past)) e.effects.calls)))) line
    ∙ new_keeps st.layout s.id on (is_call_of s) (length past) e.reading e.effects.calls (submitted past)
  where
    on : Submitted → Bool
    on m = is_lease_call m && is_on st.layout at m.call

-- So where the next turn is over its limit in the line's step, it is so in its entry.
pub turn_over : (st : Setting) (past : Trace) (e : Entry) (text : List ℕ) (z : Step) → e.input ≡ Line text → z.setting ≡ st → z.past ≡ past → z.input ≡ Line text → (s : Session) (at : Spot)
    → is_number ((known z.setting (seen z) s at).turn + 1) ≡ false → record_numbers ≤ base_turn st.layout s.id (lease_calls st (e ∷ past) s at) + 1
unfolding known
turn_over st past e text z line setting before input s at over =
    subst (λ n. record_numbers ≤ n + 1)
    (turn_line z.setting z.past (entry_of z) text s at input
    ∙ (ap (λ (q : Setting). base_turn q.layout s.id (lease_calls q z.past s at)) setting
    ∙ (ap (λ t. base_turn st.layout s.id (lease_calls st t s at)) before ∙ sym (turn_line st past e text s at line))))
    (not_number (base_turn z.setting.layout s.id (lease_calls z.setting (seen z) s at) + 1) over)
