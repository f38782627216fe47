-- The name of a joining that runs is no joined session's.
use Rattle.sl_host_law.specs.Answers.RefusalsFollow.{IsAlone}
use Rattle.sl_host_law.proofs.SharedFacts.KeptJobs.{running_there}
use Rattle.sl_host_law.proofs.SharedFacts.PlainLists.{at_some}
use Rattle.sl_host_state.specs.KeptState.{HostState, MemberState}
use Rattle.sl_host_state.specs.HostStands.{MemberStands, Stands}
use Rattle.sl_host_law.specs.Steps.SoundHosts.{NamesApart}
use Rattle.sl_due.specs.Steps.{Step, seen}
use Rattle.sl_words.proofs.Lists.{contains_map, find_inside, got_inside}
use Rattle.sl_host_law.specs.Questions.Jobs.{running_in}
use Rattle.sl_trace.specs.Sessions.{is_join_done, removed_after}
use Rattle.sl_trace.specs.declared.session.Session.{Session}
use Rattle.sl_trace.specs.Traces.{Replied, Setting, Trace, is_running, reply_to}
use Rattle.sl_trace.specs.declared.input.Input.{Input}
use Rattle.sl_words.proofs.Options.{none_is}
use Rattle.sl_words.proofs.CaseLaws.{true_is_false}
use Rattle.sl_words.proofs.WordLaws.{and_true, some_is_true}
use Rattle.sl_words.specs.Words.{choose, some_is}
use Rattle.std.proofs.Common.{ap, sym, ◌∙◌}
use Rattle.std.proofs.lemmas.Bool.Decides.{Decides-eqb}
use Rattle.std.proofs.lemmas.Slice.Eq.{bytes_eq-Decides}
use Rattle.std.specs.Prelude.{None, Option, Some, bytes_eq, false, is_none, is_some, option_and_then, slice_get, true, ℕ, ◌&&◌, ◌+◌, ◌==◌, ◌≡◌}

-- A session whose joining runs isn't joined.
pub not_joined : (st : Setting) (es : Trace) (m : MemberState) (n : ℕ) → MemberStands st es m → m.who.job ≡ Some n → is_running es n ≡ true → m.joined ≡ false
not_joined st es m n stands job runs =
    sym stands.joined
    ∙ ap (λ o. is_some (elim o as (λ z. Option ℕ) [ None ↦ Some 0 | Some j ↦ option_and_then (λ a. choose (is_join_done a.reply) (a.at + 1)) (reply_to es j) ]) && is_none (removed_after es m.who)) job
    ∙ ap (λ o. is_some (option_and_then (λ (a : Replied). choose (is_join_done a.reply) (a.at + 1)) o) && is_none (removed_after es m.who)) (none_is (reply_to es n) runs)

-- Who has the name of a member is it.
pub same_name : (h : HostState) (j k : ℕ) (a b : MemberState) → NamesApart h → slice_get h.members j ≡ Some a → slice_get h.members k ≡ Some b
    → bytes_eq a.who.lockspace b.who.lockspace ≡ true → a.who ≡ b.who
same_name h j k a b names at_j at_k same =
    names a.who b.who (contains_map (λ (m : MemberState). m.who) h.members a (got_inside h.members j a at_j)) (contains_map (λ (m : MemberState). m.who) h.members b (got_inside h.members k b at_k))
    ((bytes_eq-Decides a.who.lockspace b.who.lockspace).0 same)

pub alone : (i : Input) (h : HostState) (x : Step) (n : ℕ) → Stands i h x → NamesApart h → running_in h n ≡ true → IsAlone n h
alone i h x n s names runs m is k z there ends =
    let found = find_inside (λ (y : MemberState). some_is (λ j. j == n) y.who.job) h.members m is in
    let at = at_some h.members m found.0 in
    let both = and_true z.joined (bytes_eq z.who.lockspace m.who.lockspace) ends in
    let same : z.who ≡ m.who = same_name h k at.0 z m names there at.1 both.1 in
    let j = some_is_true (λ (j : ℕ). j == n) m.who.job found.1 in
    let job : z.who.job ≡ Some n = ap (λ (t : Session). t.job) same ∙ j.1 ∙ ap (λ y. Some y) ((Decides-eqb j.0 n).0 j.2) in
    let of_trace = running_there h x.setting (seen x) n s.keeps runs in
    absurd (true_is_false (sym both.0 ∙ not_joined x.setting (seen x) z n (s.keeps.members k z there) job of_trace.3))
