-- What a line that gives a holding up ends, and the cause of its answer where others remain under the lease.
use Rattle.sl_due_facts.proofs.Acts.AddedAtEnd.{any_last}
use Rattle.sl_due_facts.proofs.Acts.Pairs.Decisions.{release_is, writes_own_block}
use Rattle.sl_due.specs.Due.{IsDue}
use Rattle.sl_due.specs.DueCommands.{after_end, answer_line, carry_decision, decided, holding_of, pending_refusal, process_refusal, reply_at_once, serving_orphan, session_refusal, unless_refused, with_session}
use Rattle.sl_due.specs.CarriedLease.{carry_lease}
use Rattle.sl_due.specs.DueWake.{finish}
use Rattle.sl_due.specs.Steps.{Step, add_end, add_reply, seen, with_input}
use Rattle.sl_due.specs.declared.decision.Decision.{Decision}
use Rattle.sl_due.specs.declared.decision.Decision.TheVariants.{GivesUp, Replies}
use Rattle.sl_due_law.proofs.Causes.AtOnceAreCaused.{Spares}
use Rattle.sl_due_law.proofs.Causes.HeadsAreEarly.{last_is_silent}
use Rattle.sl_due_law.proofs.Causes.LeavingsRefuse.{Says, releasing_by}
use Rattle.sl_due_law.proofs.Causes.LineComes.{At_once, Carried, LineComes, LineTakes, line_comes, line_takes}
use Rattle.sl_due_leases.proofs.Grants.Values.NothingIsTold.{replied_stops}
use Rattle.sl_due_leases.proofs.Holdings.DecisionsHaveGrounds.{decisions_have_grounds}
use Rattle.sl_due_facts.proofs.Jobs.JobFactsGrow.{contains_right}
use Rattle.sl_due_law.specs.Causes.CauseFacts.{EndedAsAsked, HasEnded}
use Rattle.sl_due_facts.specs.Facts.AllFacts.{WholeTrace}
use Rattle.sl_due_leases.specs.Holdings.DecisionGrounds.{GiveUpGrounds, HasGrounds, Releases}
use Rattle.sl_trace.specs.Ballots.{moded_block}
use Rattle.sl_trace.specs.LeaseDecisions.{LeasePlace, lease_place}
use Rattle.sl_trace.specs.Releases.{release_next}
use Rattle.sl_trace.specs.Leases.{LeaseKnown, holdings_on, known, spot_of}
use Rattle.sl_trace.specs.declared.lease.LeaseNext.TheVariants.{Nothing as No_lease, WriteBlock}
use Rattle.sl_words.proofs.Lists.{contains_first, kept_inside}
use Rattle.sl_words.proofs.Numbers.{number_itself}
use Rattle.sl_sector.specs.declared.sector.Block.{Block}
use Rattle.sl_trace.specs.Sessions.{holdings_of, session_named}
use Rattle.sl_trace.specs.declared.session.Session.{Session}
use Rattle.sl_trace.specs.Traces.{Job, Setting, Trace, end_of, entry_at, is_running, is_shared, next_job, no_process, same_place, spot_of_grant}
use Rattle.sl_trace.specs.declared.command.Command.{Command}
use Rattle.sl_trace.specs.declared.command.Command.TheVariants.{Release, ReleaseOrphan}
use Rattle.sl_trace.specs.declared.command.ResourceArg.{ResourceArg}
use Rattle.sl_trace.specs.declared.effects.Effects.{Effects}
use Rattle.sl_trace.specs.declared.effects.End.{End}
use Rattle.sl_trace.specs.declared.effects.Entry.{Entry}
use Rattle.sl_trace.specs.declared.effects.Grant.{Grant}
use Rattle.sl_trace.specs.declared.effects.JobReply.{JobReply}
use Rattle.sl_trace.specs.declared.effects.LeaseStep.TheVariants.{ClearMode}
use Rattle.sl_trace.specs.declared.effects.Mode.{Mode}
use Rattle.sl_trace.specs.declared.effects.Mode.TheVariants.{Exclusive, Shared}
use Rattle.sl_trace.specs.declared.effects.Spot.{Spot}
use Rattle.sl_trace.specs.declared.effects.Work.TheVariants.{ForJob}
use Rattle.sl_trace.specs.declared.input.Input.TheVariants.{Line}
use Rattle.sl_trace.specs.declared.reply.Limited.TheVariants.{Turn as TurnLimit}
use Rattle.sl_trace.specs.declared.reply.Reply.{Reply}
use Rattle.sl_trace.specs.declared.reply.Reply.TheVariants.{Done, Limit as LimitReached, NoOrphan, NotHeld}
use Rattle.sl_words.proofs.CaseLaws.{false_is_true, none_some, not_both, true_is_false}
use Rattle.sl_words.specs.Bounds.{is_number}
use Rattle.sl_words.specs.Words.{choose}
use Rattle.sl_due_facts.specs.Acts.Acts.{next_of_release}
use Rattle.std.proofs.Common.{ap, inl, inr, refl, subst, sym, ◌∙◌}
use Rattle.std.proofs.lemmas.Bool.{eqb-true}
use Rattle.std.specs.List.{list_any}
use Rattle.std.specs.Option.{option_map_or}
use Rattle.std.specs.Prelude.{Bool, Contains, List, None, Ok, Option, Some, [], false, is_none, true, ℕ, ◌&&◌, ◌++◌, ◌+◌, ◌==◌, ◌∷◌, ◌≡◌}

-- ---- who may be released

abbrev Gives : Decision → Type 0
Gives (Replies r) = Unit {0}
Gives (GivesUp s g) = Unit {0}
Gives d = ⊥

or_gives : (o : Option Reply) (d : Decision) → Gives d → Gives (elim o as (λ z. Decision) [ Some why ↦ Replies why | None ↦ d ])
or_gives (Some why) d h = tt
or_gives None d h = h

unless_gives : (os : List (Option Reply)) (d : Decision) → Gives d → Gives (unless_refused os d)
unless_gives [] d h = h
unless_gives (o ∷ os) d h = or_gives o (unless_refused os d) (unless_gives os d h)

held_gives : (s : Session) (why : Reply) (o : Option Grant) → Gives (option_map_or (λ g. GivesUp s g) o (Replies why))
held_gives s why None = tt
held_gives s why (Some g) = tt

-- Whether the command gives a holding up.
abbrev pub is_giving : Command → Bool
is_giving (Release r p) = true
is_giving (ReleaseOrphan r) = true
is_giving c = false

gives_or_replies : (st : Setting) (es : Trace) (now : ℕ) (c : Command) → is_giving c ≡ true → Gives (decided st es now c)
unfolding decided
gives_or_replies st es now (Release r p) is = by (session_named st es r.lockspace) where
  by : (o : Option Session)
      → Gives (with_session o (λ s. unless_refused (session_refusal st es s ∷ process_refusal es p ∷ choose (is_none (holding_of es s (spot_of r) p (λ g. true))) NotHeld ∷ pending_refusal st es (spot_of r) ∷ [])
      (option_map_or (λ g. GivesUp s g) (holding_of es s (spot_of r) p (λ g. true)) (Replies NotHeld))))
  by None = tt
  by (Some s) =
      unless_gives (session_refusal st es s ∷ process_refusal es p ∷ choose (is_none (holding_of es s (spot_of r) p (λ g. true))) NotHeld ∷ pending_refusal st es (spot_of r) ∷ [])
      (option_map_or (λ g. GivesUp s g) (holding_of es s (spot_of r) p (λ g. true)) (Replies NotHeld)) (held_gives s NotHeld (holding_of es s (spot_of r) p (λ g. true)))
gives_or_replies st es now (ReleaseOrphan r) is = by (session_named st es r.lockspace) where
  serves : Grant → Bool
  serves g = true

  by : (o : Option Session)
      → Gives (with_session o (λ s. unless_refused (session_refusal st es s ∷ None ∷ choose (is_none (serving_orphan es s (spot_of r) (λ g. true))) NoOrphan ∷ pending_refusal st es (spot_of r) ∷ [])
      (option_map_or (λ g. GivesUp s g) (serving_orphan es s (spot_of r) (λ g. true)) (Replies NoOrphan))))
  by None = tt
  by (Some s) =
      unless_gives (session_refusal st es s ∷ None ∷ choose (is_none (serving_orphan es s (spot_of r) (λ g. true))) NoOrphan ∷ pending_refusal st es (spot_of r) ∷ [])
      (option_map_or (λ g. GivesUp s g) (serving_orphan es s (spot_of r) (λ g. true)) (Replies NoOrphan)) (held_gives s NoOrphan (serving_orphan es s (spot_of r) (λ g. true)))
gives_or_replies st es now c is = absurd (false_is_true is)

-- ---- what is given up is what was asked

-- Of its process, or the orphan.
abbrev pub ends_for : ResourceArg → ℕ → List End → Bool
ends_for r p ends = list_any (λ d. d.process == p && same_place d.path d.offset r.path r.offset) ends

pub ends_it : (r : ResourceArg) (g : Grant) (p : ℕ) (old : List End) → g.process ≡ p → same_place g.path g.offset r.path r.offset ≡ true → ends_for r p (old ++ end_of g ∷ []) ≡ true
ends_it r g p old its place =
    any_last (λ d. d.process == p && same_place d.path d.offset r.path r.offset) old (end_of g) (ap (λ b. b && same_place g.path g.offset r.path r.offset) (ap (λ n. n == p) its ∙ number_itself p) ∙ place)

-- ---- what the line ends

lease_ends : (s : Session) (at : Spot) (n : ℕ) (mode : Mode) (lver : ℕ) (p : LeasePlace) (k : LeaseKnown) (y : Step) → (carry_lease s at (ForJob n) (release_next p k mode lver) y).effects.ends ≡ y.effects.ends
unfolding carry_lease
lease_ends s at n Exclusive lver p k y = refl
lease_ends s at n Shared lver p k y = by k.own where
  by : (o : Option Block) → (carry_lease s at (ForJob n) (option_map_or (λ own. WriteBlock ClearMode (moded_block own false 0)) o No_lease) y).effects.ends ≡ y.effects.ends
  by None = refl
  by (Some own) = refl

lease_grants : (s : Session) (at : Spot) (n : ℕ) (mode : Mode) (lver : ℕ) (p : LeasePlace) (k : LeaseKnown) (y : Step) → (carry_lease s at (ForJob n) (release_next p k mode lver) y).effects.grants ≡ y.effects.grants
unfolding carry_lease
lease_grants s at n Exclusive lver p k y = refl
lease_grants s at n Shared lver p k y = by k.own where
  by : (o : Option Block) → (carry_lease s at (ForJob n) (option_map_or (λ own. WriteBlock ClearMode (moded_block own false 0)) o No_lease) y).effects.grants ≡ y.effects.grants
  by None = refl
  by (Some own) = refl

-- What is left of the lease after the end: other holdings, or what is written next; or the turn of that would pass its limit.
pub data Remains (n : ℕ) (s : Session) (g : Grant) (w z : Step) : Type 0 where
  Others_remain : (h : Grant) (hs : List Grant) → holdings_on (seen (add_end (end_of g) w)) s (spot_of_grant g) ≡ h ∷ hs → z.effects.replies ≡ w.effects.replies ++ record { job = n; reply = Done } ∷ [] → Remains n s g w z
  None_remains : ((q : Reply) → Spares (Says q) w z) → Remains n s g w z
  Turn_passes : holdings_on (seen (add_end (end_of g) w)) s (spot_of_grant g) ≡ [] → is_shared g.mode ≡ true → w.setting.layout.paired ≡ true →
      is_number ((known w.setting (seen (add_end (end_of g) w)) s (spot_of_grant g)).turn + 1) ≡ false → z.effects.replies ≡ w.effects.replies ++ record { job = n; reply = LimitReached TurnLimit } ∷ [] → Remains n s g w z

pub record GivenUp (n : ℕ) (s : Session) (g : Grant) (w z : Step) : Type 0 where
  pub ends : z.effects.ends ≡ w.effects.ends ++ end_of g ∷ []
  pub grants : z.effects.grants ≡ w.effects.grants
  pub remains : Remains n s g w z

pub given_up : (n : ℕ) (c : Command) (s : Session) (g : Grant) (w : Step) → GivenUp n s g w (carry_decision n c (GivesUp s g) w)
unfolding carry_decision after_end carry_lease
given_up n c s g w = by (holdings_on (seen y) s (spot_of_grant g)) refl where
  y : Step
  y = add_end (end_of g) w

  shows : (mode : Mode) → writes_own_block (release_next (lease_place y.setting s) (known y.setting (seen y) s (spot_of_grant g)) mode g.lver) ≡ true → is_shared mode ≡ true
  shows Exclusive writes = absurd (false_is_true writes)
  shows Shared writes = refl

  by : (hs : List Grant) → holdings_on (seen y) s (spot_of_grant g) ≡ hs
      → GivenUp n s g w (elim hs as (λ z. Step) [ k ∷ ks ↦ add_reply n Done y | [] ↦ carry_lease s (spot_of_grant g) (ForJob n) (next_of_release y.setting (seen y) s (spot_of_grant g) g) y ])
  by (k ∷ ks) is = record { ends = refl; grants = refl; remains = Others_remain k ks is refl }
  by [] is =
      release_is (λ z. GivenUp n s g w (carry_lease s (spot_of_grant g) (ForJob n) z y)) y.setting (seen y) s (spot_of_grant g) g
      (λ fits. record {
        ends = lease_ends s (spot_of_grant g) n g.mode g.lver (lease_place y.setting s) (known y.setting (seen y) s (spot_of_grant g)) y;
        grants = lease_grants s (spot_of_grant g) n g.mode g.lver (lease_place y.setting s) (known y.setting (seen y) s (spot_of_grant g)) y;
        remains = None_remains (λ q. releasing_by q s (spot_of_grant g) n g.mode g.lver (lease_place y.setting s) (known y.setting (seen y) s (spot_of_grant g)) w y (λ a there is. there));
      })
      (λ paired over writes. record { ends = refl; grants = refl; remains = Turn_passes is (shows g.mode writes) paired over refl })

-- ---- what a release that runs has ended

pub release_ends : (st : Setting) (past : Trace) (e : Entry) (text : List ℕ) (c : Command) (j : Job) → WholeTrace st past → IsDue st past e → e.input ≡ Line text → st.read text ≡ Ok c → is_running (e ∷ past) (next_job st past) ≡ true
    → entry_at (e ∷ past) j.at ≡ Some e → EndedAsAsked (e ∷ past) j c
release_ends st past e text c j w due_so line says runs at = giving (is_giving c) refl where
  k : LineComes st past e text c
  k = line_comes st past e text c w due_so line says

  x : Step
  x = k.first

  n : ℕ
  n = next_job x.setting (seen x)

  not_at_once : (q : Reply) → e.effects ≡ (finish (answer_line text n q x)).effects → ⊥
  not_at_once q done =
      let a : JobReply = record { job = n; reply = q } in
      let there : Contains e.effects.replies a =
      subst (λ rs. Contains rs a) (sym (ap (λ (f : Effects). f.replies) done ∙ (last_is_silent (answer_line text n q x)).replies)) (contains_right x.effects.replies (a ∷ []) a (contains_first a []))
      in not_both (is_running (e ∷ past) (next_job st past)) runs (subst (λ m. is_running (e ∷ past) m ≡ false) k.number (replied_stops past e a there))

  ended : (s : Session) (g : Grant) → decided x.setting (seen x) x.reading c ≡ GivesUp s g → e.effects ≡ (finish (carry_decision n c (GivesUp s g) (with_input (Line text) x))).effects → EndedAsAsked (e ∷ past) j c
  ended s g decides done = named u.releases where
    u : GiveUpGrounds x.setting (seen x) c s g
    u = subst (λ q. HasGrounds x.setting (seen x) c q) decides (decisions_have_grounds x.setting (seen x) x.reading c)

    place : same_place g.path g.offset u.resource.path u.resource.offset ≡ true
    place = (kept_inside (λ (h : Grant). same_place h.path h.offset u.resource.path u.resource.offset) (holdings_of (seen x) s) g u.held).1

    ends : e.effects.ends ≡ x.effects.ends ++ end_of g ∷ []
    ends = ap (λ (f : Effects). f.ends) done ∙ ((last_is_silent (carry_decision n c (GivesUp s g) (with_input (Line text) x))).ends ∙ (given_up n c s g (with_input (Line text) x)).ends)

    of : (p : ℕ) → g.process ≡ p → HasEnded (e ∷ past) j u.resource p
    of p its = (e, at, ap (λ es. ends_for u.resource p es) ends ∙ ends_it u.resource g p x.effects.ends its place)

    named : Releases c u.resource g → EndedAsAsked (e ∷ past) j c
    named (inl v) = subst (λ q. EndedAsAsked (e ∷ past) j q) (sym v.1) (of v.0 v.2)
    named (inr v) = subst (λ q. EndedAsAsked (e ∷ past) j q) (sym v.0) (of no_process (eqb-true g.process no_process v.1))

  decision : (d : Decision) → decided x.setting (seen x) x.reading c ≡ d → reply_at_once d ≡ None → e.effects ≡ (finish (carry_decision n c d (with_input (Line text) x))).effects → Gives d → EndedAsAsked (e ∷ past) j c
  decision (GivesUp s g) decides more done may = ended s g decides done
  decision (Replies r) decides more done may = absurd (none_some r (sym more))
  decision d decides more done may = absurd may

  takes : is_giving c ≡ true → LineTakes st past e text c x n → EndedAsAsked (e ∷ past) j c
  takes gives (At_once r decides done) = absurd (not_at_once r done)
  takes gives (Carried d decides more done) = decision d decides more done (subst (λ q. Gives q) decides (gives_or_replies x.setting (seen x) x.reading c gives))

  other : (b : Command) → is_giving b ≡ false → EndedAsAsked (e ∷ past) j b
  other (Release r p) none = absurd (true_is_false none)
  other (ReleaseOrphan r) none = absurd (true_is_false none)
  other b none = tt

  giving : (g : Bool) → is_giving c ≡ g → EndedAsAsked (e ∷ past) j c
  giving true gives = takes gives (line_takes st past e text c k)
  giving false none = other c none
