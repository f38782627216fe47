-- A host that has come to its input: all that every act keeps is kept up to there.
use Rattle.sl_due_facts.proofs.Acts.InputsKeep.{other_acts}
use Rattle.sl_due_facts.proofs.Acts.StepsKeep.{head_keeps}
use Rattle.sl_due.specs.Due.{before_input}
use Rattle.sl_due.specs.Steps.{begin_step}
use Rattle.sl_due_law.proofs.LawfulTraces.AllIsKept.{all_begins, all_is_kept}
use Rattle.sl_due_law.proofs.LawfulTraces.TracesHold.{traces_hold}
use Rattle.sl_due_law.specs.LawfulTraces.CarriedFacts.{Kept}
use Rattle.sl_host_law.proofs.Steps.BeginningsFollow.{beginnings_follow}
use Rattle.sl_host_law.proofs.Steps.SoundBefore.{before_sound}
use Rattle.sl_host_law.specs.Steps.StepsFollow.{entry_at}
use Rattle.sl_host_state.specs.KeptState.{HostState}
use Rattle.sl_step_law.specs.ReadyHosts.{HostsAreReady, InputComes}
use Rattle.sl_trace.specs.Traces.{Setting, Trace}
use Rattle.sl_trace.specs.declared.input.Input.{Input}
use Rattle.std.proofs.Common.{subst}
use Rattle.std.specs.Prelude.{ℕ, ◌≤◌}

kept_there : (now : ℕ) (i : Input) (h : HostState) (st : Setting) (es : Trace) → InputComes now i h st es → Kept (before_input (begin_step st es now))
unfolding before_input
kept_there now i h st es c =
    (head_keeps Kept (other_acts Kept all_is_kept) st es now (all_begins st es (entry_at st es now i) c.follows (traces_hold st es c.setting c.stands.past))).kept

pub hosts_are_ready : HostsAreReady
hosts_are_ready now i h st es c =
    let later : h.reading ≤ now = subst (λ n. n ≤ now) c.stands.reading c.follows.time in
    record {
      stands = beginnings_follow.stands h st es now later c.sound.names c.stands;
      early = beginnings_follow.early h st es now later c.sound.names c.stands;
      sound = before_sound now h c.sound;
      kept = kept_there now i h st es c;
    }
