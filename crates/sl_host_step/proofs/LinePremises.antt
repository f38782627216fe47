-- What a line asks of the host that has come to it.
use Rattle.sl_area.specs.AreaSizes.{Layout, layout_of}
use Rattle.sl_host_lines.specs.LeavingsBegin.{line_cost}
use Rattle.sl_host_lines.specs.LineFacts.{LineKnown}
use Rattle.sl_host_lines.specs.Seats.{HasSeat}
use Rattle.sl_host_state.specs.KeptState.{Config, HostKept, Made}
use Rattle.sl_host_step.proofs.StepsMayCome.{at_input}
use Rattle.sl_host_step.proofs.KnownLines as known
use Rattle.sl_host_step.specs.Moments.{AtInput, StepComes}
use Rattle.sl_host_passes.specs.PassesLessen.{leases_in}
use Rattle.sl_host_step.specs.InputReach.{reach_of}
use Rattle.sl_host_step.specs.StepMemory.{EndsWith, HasLeft, calls_for, left_for, reached}
use Rattle.sl_host_step.specs.declared.step_memory.Reach.TheVariants.{All, Few}
use Rattle.sl_host_step.specs.declared.step_memory.Reach.{Reach}
use Rattle.sl_host_step.specs.JoiningSeats.{HasPlace, MayBeSeated}
use Rattle.sl_command.specs.VerbReads.{answered}
use Rattle.sl_member.specs.Members.{MemberKept, blank_member}
use Rattle.sl_trace.specs.Sessions.{joining_session}
use Rattle.sl_trace.specs.declared.command.BadCommand.{BadCommand}
use Rattle.sl_host.specs.MemberRun.{run_in}
use Rattle.sl_text.specs.Names.{is_name}
use Rattle.sl_trace.specs.CommandForms.{IsCommand, command_in, forms}
use Rattle.sl_trace.specs.declared.command.Command.TheVariants as commands
use Rattle.sl_trace.specs.declared.command.Command.{Command}
use Rattle.sl_trace.specs.declared.input.Input.TheVariants.{Line}
use Rattle.sl_host.specs.Host.{HostView, SameRun, Spends}
use Rattle.std.proofs.Common.{ap, arith, refl, subst, sym, ◌∙◌}
use Rattle.std.specs.Prelude.{Err, IsTrue, List, None, Ok, Option, Result, Some, length, ℕ, ◌*◌, ◌+◌, ◌≡◌, ◌≤◌}

pub line_known_at : (now : ℕ) (text : List ℕ) (first k : HostKept) (c : Command) → AtInput now (Line text) first k → command_in (forms (layout_of first.config.sizes)) text ≡ Ok c → LineKnown k c
line_known_at now text first k c a says =
    known.line_known now text k c (at_input now (Line text) first k a) (subst (λ (m : Made). m.grace ≤ 600000) (sym a.same) a.comes.keeps.grace)
    (ap (λ (m : Made). command_in (forms (layout_of m.sizes)) text) a.same ∙ says)

pub may_be_seated : (now : ℕ) (text : List ℕ) (k : HostKept) (c : Command) → StepComes now (Line text) k → command_in (forms (layout_of k.config.sizes)) text ≡ Ok c → MayBeSeated k c
may_be_seated now text k c comes says =
    record {
      command = subst (λ (g : Layout). IsCommand g c) (ap (λ (z : Config). z.layout) comes.keeps.stands.keeps.config)
          (comes.keeps.setting.reads text c (comes.keeps.reads text ∙ says));
      named = subst (λ (n : List ℕ). IsTrue (is_name n)) (ap (λ (z : Config). z.name) comes.keeps.stands.keeps.config) comes.keeps.setting.name;
    }

-- The member that was made for the command is there for it at its input.
pub seated : (r : Reach) (old new : HostView) (c : Command) (o : Option MemberKept) → HasPlace old c o → HasLeft r old new → HasSeat new c o
seated r old new (commands.AddLockspace a) None place left = place
seated r old new (commands.AddLockspace a) (Some m) place left =
    record {
      run = ap (λ (z : MemberKept). z.run) place ∙ ap run_in (sym left.config);
      blank = ap (λ (z : MemberKept). z.state) place
          ∙ ap (λ (z : Made). blank_member (run_in z) (joining_session old.kept.born old.kept.next_job a)) (sym left.config)
          ∙ ap (λ n. blank_member (run_in new.kept.config) (joining_session n old.kept.next_job a)) (sym left.born)
          ∙ ap (λ n. blank_member (run_in new.kept.config) (joining_session new.kept.born n a)) (sym left.lines);
      room = subst (λ n. new.calls ≤ n) (sym (ap (λ (z : MemberKept). z.room) place)) left.few;
    }
seated r old new (commands.RemLockspace a) o place left = tt
seated r old new (commands.InqLockspace a) o place left = tt
seated r old new (commands.HostStatus a) o place left = tt
seated q old new (commands.Acquire r shared p persistent) o place left = tt
seated q old new (commands.TakeOver r shared p persistent) o place left = tt
seated q old new (commands.Release r p) o place left = tt
seated q old new (commands.ReleaseOrphan r) o place left = tt
seated q old new (commands.Convert r shared p) o place left = tt
seated q old new (commands.RunProgram r shared path) o place left = tt
seated q old new (commands.Request r lver force) o place left = tt
seated q old new (commands.GetLvb r p) o place left = tt
seated q old new (commands.SetLvb r p bytes) o place left = tt
seated r old new (commands.SetKillpath p path) o place left = tt
seated r old new commands.Status o place left = tt

-- What code reads of a text is what the grammar reads.
abbrev IsRead : Result Command BadCommand → Result Command ℕ → Type 0
IsRead (Ok c) r = r ≡ Ok c
IsRead (Err b) r = r ≡ Err b.column

pub is_read : (r : Result Command ℕ) → IsRead (answered r) r
is_read (Ok c) = refl
is_read (Err column) = refl

pub read_command : (r : Result Command ℕ) (c : Command) → Ok c ≡ answered r → r ≡ Ok c
read_command r c is = subst (λ z. IsRead z r) (sym is) (is_read r)

pub read_column : (r : Result Command ℕ) (b : BadCommand) → Err b ≡ answered r → r ≡ Err b.column
read_column r b is = subst (λ z. IsRead z r) (sym is) (is_read r)

-- ---- what a line costs

five : 5 + 0 ≤ 5 + 0
five = omega arith

all_of : (a b : ℕ) → 5 + (a + b) ≤ 5 + (a + b)
all_of a b = omega arith

-- By how far its command reaches.
pub cost_within : (k : HostKept) (c : Command) → line_cost k (Ok c) ≤ 5 + reached (reach_of c) (length k.holdings + length k.jobs)
cost_within k (commands.RemLockspace a) = all_of (length k.holdings) (length k.jobs)
cost_within k (commands.AddLockspace a) = five
cost_within k (commands.InqLockspace a) = five
cost_within k (commands.HostStatus a) = five
cost_within k (commands.Acquire r shared p persistent) = five
cost_within k (commands.TakeOver r shared p persistent) = five
cost_within k (commands.Release r p) = five
cost_within k (commands.ReleaseOrphan r) = five
cost_within k (commands.Convert r shared p) = five
cost_within k (commands.RunProgram r shared path) = five
cost_within k (commands.Request r lver force) = five
cost_within k (commands.GetLvb r p) = five
cost_within k (commands.SetLvb r p bytes) = five
cost_within k (commands.SetKillpath p path) = five
cost_within k commands.Status = five

pub line_fits : (r : Reach) (n : ℕ) (first v : HostView) → HasLeft r first v → n ≤ 5 + reached r (length v.kept.holdings + length v.kept.jobs) → n ≤ v.left
line_fits All n first v left few = let is = left.left in omega (arith, is, few)
line_fits Few n first v left few = let is = left.left in omega (arith, is, few)

-- Enough is left behind it for what comes last.
ends_with : (r : Reach) (first old new : HostView) → HasLeft r first old → SameRun old new → 2 * new.seats ≤ new.left → new.seats ≤ new.calls → EndsWith first new
ends_with r first old new left same few few_calls =
    record {
      left = few;
      calls = few_calls;
      seats = same.2.2 ∙ left.seats;
      most = subst (λ n. n ≤ left_for first) (sym same.2.0) left.most;
      most_calls = subst (λ n. n ≤ calls_for first) (sym same.2.1) left.most_calls;
    }

pub line_leaves : (r : Reach) (n : ℕ) (first old new : HostView) → HasLeft r first old → n ≤ 5 + reached r (length old.kept.holdings + length old.kept.jobs) → Spends old new n 1 → SameRun old new → EndsWith first new
line_leaves All n first old new left few spends same =
    let is = left.left in
    let calls = left.calls in ends_with All first old new left same (omega (arith, is, few, spends.0, same.2.2)) (omega (arith, calls, spends.1, same.2.2))
line_leaves Few n first old new left few spends same =
    let is = left.left in
    let calls = left.calls in ends_with Few first old new left same (omega (arith, is, few, spends.0, same.2.2)) (omega (arith, calls, spends.1, same.2.2))

-- And behind an answer.
pub answer_leaves : (r : Reach) (n k : ℕ) (first old new : HostView) → HasLeft r first old → n ≤ reached r (length old.kept.holdings + length old.kept.jobs) + 3 → k ≤ reached r (leases_in old.kept.members) + 1
    → Spends old new n k → SameRun old new → EndsWith first new
answer_leaves All n k first old new left few few_calls spends same =
    let is = left.left in
    let calls = left.calls in ends_with All first old new left same (omega (arith, is, few, spends.0, same.2.2)) (omega (arith, calls, few_calls, spends.1, same.2.2))
answer_leaves Few n k first old new left few few_calls spends same =
    let is = left.left in
    let calls = left.calls in ends_with Few first old new left same (omega (arith, is, few, spends.0, same.2.2)) (omega (arith, calls, few_calls, spends.1, same.2.2))
