-- What the causes of replies stand on holds of each trace of steps that are due.
use Rattle.sl_due.specs.Due.{IsDue, IsHostTrace}
use Rattle.sl_due_law.proofs.Causes.AnsweredJobs.{ran_past}
use Rattle.sl_due_law.proofs.Causes.CallsBehind.{behind_more, looked_more}
use Rattle.sl_due_law.proofs.Causes.ChildrenHold.{children_hold}
use Rattle.sl_due_law.proofs.Causes.EntryMakings.{MadeIn, entry_makes}
use Rattle.sl_due_law.proofs.Causes.ReleasedAtLines.{release_ends}
use Rattle.sl_due_facts.proofs.Connections.DeltaLaws.{nothing_was_read}
use Rattle.sl_due_facts.proofs.Jobs.JobsAreNumbered.{found_after, numbered_stays}
use Rattle.sl_due_law.proofs.LawfulTraces.BusyKept.{traces_wait}
use Rattle.sl_due_law.proofs.LawfulTraces.TracesHold.{traces_hold}
use Rattle.sl_due_law.specs.Causes.CauseFacts.{CauseFacts, EndedAsAsked, HasEnded}
use Rattle.sl_due_law.specs.LawfulTraces.JobLore.{AllSuit}
use Rattle.sl_due_law.specs.LawfulTraces.CarriedFacts.{Holds}
use Rattle.sl_run.specs.Lawful.{IsSetting}
use Rattle.sl_words.proofs.Lists.{contains_none, in_map}
use Rattle.sl_trace.specs.Sessions.{given_session}
use Rattle.sl_trace.specs.declared.session.Session.{Session}
use Rattle.sl_trace.specs.Traces.{FollowsTrace, Job, Setting, Trace, entry_at, is_running, job_in, job_numbered, jobs, line_in, next_job, no_process}
use Rattle.sl_trace.specs.declared.command.Command.{Command}
use Rattle.sl_trace.specs.declared.command.Command.TheVariants.{Release, ReleaseOrphan}
use Rattle.sl_trace.specs.declared.command.ResourceArg.{ResourceArg}
use Rattle.sl_trace.specs.declared.effects.Entry.{Entry}
use Rattle.sl_trace.specs.declared.input.Input.{Input}
use Rattle.sl_trace.specs.declared.input.Input.TheVariants.{Answer as Told, Exit, Line, Number, Spawned, Wake}
use Rattle.sl_words.proofs.CaseLaws.{none_some, one_value, some_value}
use Rattle.std.proofs.Common.{ap, arith, refl, subst, sym, ◌∙◌}
use Rattle.std.proofs.lemmas.Bool.{eqb-true}
use Rattle.std.proofs.lemmas.Bool.Decides.{nat_tests}
use Rattle.std.specs.List.{enumerate_from}
use Rattle.std.specs.Prelude.{Bool, List, None, Ok, Option, Some, [], cond, false, find, length, nat_lt, slice_get, suc, true, ℕ, ◌-◌, ◌<◌, ◌==◌, ◌∷◌, ◌≡◌}

-- ---- the entry of a job

entry_as : (t : Trace) (i k : ℕ) (x : Entry) → i < length t → length t - 1 - i ≡ k → slice_get t k ≡ Some x → entry_at t i ≡ Some x
entry_as t i k x low is at =
    let test : nat_lt i (length t) ≡ true = grind (arith, nat_tests) in
    ap (λ b. elim b as (λ z. Option Entry) [ false ↦ None | true ↦ slice_get t (length t - 1 - i) ]) test ∙ (ap (λ n. slice_get t n) is ∙ at)

-- An entry that was there stays at its place.
pub entry_stays : (past : Trace) (e x : Entry) (i : ℕ) → entry_at past i ≡ Some x → entry_at (e ∷ past) i ≡ Some x
entry_stays past e x i is = by (nat_lt i (length past)) refl is where
  by : (b : Bool) → nat_lt i (length past) ≡ b → elim b as (λ z. Option Entry) [ false ↦ None | true ↦ slice_get past (length past - 1 - i) ] ≡ Some x → entry_at (e ∷ past) i ≡ Some x
  by false high at = absurd (none_some x at)
  by true low at =
      let less : i < length past = grind (arith, nat_tests) in
      let more : i < suc (length past) = omega arith in
      let place : suc (length past) - 1 - i ≡ suc (length past - 1 - i) = omega arith in
      entry_as (e ∷ past) i (suc (length past - 1 - i)) x more place at

pub entry_new : (past : Trace) (e : Entry) → entry_at (e ∷ past) (length past) ≡ Some e
entry_new past e =
    let more : length past < suc (length past) = omega arith in
    let place : suc (length past) - 1 - length past ≡ 0 = omega arith in
    entry_as (e ∷ past) (length past) 0 e more place refl

-- ---- what a release has ended

ended_more : (st : Setting) (past : Trace) (e : Entry) → Holds st past → IsDue st past e → CauseFacts st past → (n : ℕ) (j : Job) (c : Command) → job_numbered st (e ∷ past) n ≡ Some j → j.command ≡ Ok c → is_running (e ∷ past) n ≡ true
    → EndedAsAsked (e ∷ past) j c
ended_more st past e h due_so facts n j c found reads runs = by (job_numbered st past n) refl where
  has_stayed : (r : ResourceArg) (p : ℕ) → HasEnded past j r p → HasEnded (e ∷ past) j r p
  has_stayed r p v = (v.0, entry_stays past e v.0 j.at v.1, v.2)

  stayed : (d : Command) → EndedAsAsked past j d → EndedAsAsked (e ∷ past) j d
  stayed (Release r p) v = has_stayed r p v
  stayed (ReleaseOrphan r) v = has_stayed r no_process v
  stayed d v = tt

  -- it is the line's own
  new : (o : Option (List ℕ)) → line_in e.input ≡ o → find (λ (k : Job). k.number == n) (elim o as (λ z. List Job) [ None ↦ [] | Some text ↦ record { number = next_job st past; at = length past; reading = e.reading; command = st.read text } ∷ [] ]) ≡ Some j
      → EndedAsAsked (e ∷ past) j c
  new None none is = absurd (none_some j is)
  new (Some text) some is = own (next_job st past == n) refl is where
    made : Job
    made = record { number = next_job st past; at = length past; reading = e.reading; command = st.read text }

    text_of : (i : Input) (t : List ℕ) → line_in i ≡ Some t → i ≡ Line t
    text_of (Line t) u k = ap (λ q. Line q) (some_value t u k)
    text_of Wake u k = absurd (none_some u k)
    text_of (Number t) u k = absurd (none_some u k)
    text_of (Told m a) u k = absurd (none_some u k)
    text_of (Exit p) u k = absurd (none_some u k)
    text_of (Spawned p ok) u k = absurd (none_some u k)

    own : (b : Bool) → (next_job st past == n) ≡ b → cond b (Some made) None ≡ Some j → EndedAsAsked (e ∷ past) j c
    own false other at = absurd (none_some j at)
    own true mine at =
        let same : made ≡ j = some_value made j at in
        release_ends st past e text c j h.whole due_so (text_of e.input text some) (ap (λ (k : Job). k.command) same ∙ reads)
        (subst (λ m. is_running (e ∷ past) m ≡ true) (sym (eqb-true (next_job st past) n mine)) runs)
        (subst (λ (k : Job). entry_at (e ∷ past) k.at ≡ Some e) same (entry_new past e))

  by : (o : Option Job) → job_numbered st past n ≡ o → EndedAsAsked (e ∷ past) j c
  by (Some i) is =
      let same : i ≡ j = one_value i j (job_numbered st (e ∷ past) n) (numbered_stays st e past n i is) found in
      stayed c (facts.ended n j c (is ∙ ap (λ k. Some k) same) reads (ran_past past e n runs))
  by None none = new (line_in e.input) refl (sym (found_after (λ (k : Job). k.number == n) (jobs st past) (job_in st past (next_job st past) e) none) ∙ found)

-- ---- all of it

pub causes_stand : (st : Setting) (past : Trace) (e : Entry) → FollowsTrace st past e → IsDue st past e → Holds st past → Holds st (e ∷ past) → AllSuit st (e ∷ past) → CauseFacts st past → CauseFacts st (e ∷ past)
causes_stand st past e follows due_so h later suits facts =
    record {
      watches = later.watches;
      suit = suits;
      looked = looked_more st past e makes.looks;
      behind = behind_more st past e h facts makes.makes;
      ended = ended_more st past e h due_so facts;
      starts = children_hold st past e h later due_so facts makes.makes;
    } where
      makes : MadeIn st past e
      makes = entry_makes st past e follows due_so h facts

causes_at_first : (st : Setting) → CauseFacts st []
causes_at_first st =
    record {
      watches = nothing_was_read st;
      suit = λ m there. absurd (contains_none m there);
      looked = λ s j there its. let given = in_map given_session (enumerate_from 0 st.given) s there in absurd (none_some j (ap (λ (z : Session). z.job) given.2 ∙ its));
      behind = λ m j c there of reads. absurd (contains_none m there);
      ended = λ n j c found reads runs. absurd (none_some j found);
      starts = record {
        lone = λ k l j there here its also. absurd (contains_none k there);
        childless = λ m j k w there its. contains_none k there;
        told = λ m j c p w reads names. absurd (contains_none m w.there);
        holds = λ p j k found its none runs. absurd (none_some k found);
      };
    }

pub traces_stand : (st : Setting) (es : Trace) → IsSetting st → IsHostTrace st es → CauseFacts st es
traces_stand st [] setting h = causes_at_first st
traces_stand st (e ∷ past) setting h =
    causes_stand st past e h.0.0 h.1.0 (traces_hold st past setting (h.0.1, h.1.1)) (traces_hold st (e ∷ past) setting h) (traces_wait st (e ∷ past) setting h).lore.suit (traces_stand st past setting (h.0.1, h.1.1))
