-- The whole program reads each ask as the command that it spells: the text of a command is read as the command.
use Rattle.sl_area.specs.AreaSizes.{layout_of}
use Rattle.sl_command.proofs.WrittenCommands.{command_of_text}
use Rattle.sl_run.specs.LockNames.{resource_of}
use Rattle.sl_run.specs.Lvm.{Acquiring, Course, Moving, Reading, Releasing, Writing, lock_process}
use Rattle.sl_run.specs.Headers.{IsHeader}
use Rattle.sl_run.specs.Worlds.{whole_program}
use Rattle.sl_run.specs.declared.header.Header.{Header}
use Rattle.sl_run_law.proofs.Place.Sizes.{sized}
use Rattle.sl_trace.specs.CommandForms.{IsCommand}
use Rattle.sl_trace.specs.Traces.{is_shared}
use Rattle.sl_trace.specs.declared.command.Command.TheVariants.{Acquire, GetLvb, SetLvb}
use Rattle.sl_trace.specs.declared.command.Command.{Command}
use Rattle.sl_headline.proofs.Volumes.DueCallsFit.{due_runs_are_answered}
use Rattle.sl_headline.proofs.Volumes.LocksAreResources.{locks_are_resources}
use Rattle.sl_headline.proofs.Volumes.LocksAreHeld.{locks_are_held}
use Rattle.sl_headline.specs.Volumes.LockAsks.{IsFairCourse, asked_command}
use Rattle.sl_headline.specs.Volumes.WholeProgramReads.{LocksAreHeldWhenDue, WholeProgramReads}
use Rattle.sl_words.proofs.CaseLaws.{none_some, some_value}
use Rattle.std.proofs.Common.{arith, refl, subst}
use Rattle.std.specs.Prelude.{Some, false, [], ℕ, ◌<◌, ◌^◌, ◌∷◌, ◌≡◌, ◌≤◌}

few : (n : ℕ) → n ≤ 2000 → n < 2 ^ 64
few n h = omega (arith, h)

hosts_are_few : (h : Header) → IsHeader h → (layout_of h.geometry).hosts < 2 ^ 64
hosts_are_few h header = few (layout_of h.geometry).hosts (sized (layout_of h.geometry).digest h.geometry header.geometry).hosts.1

-- What is asked may be asked.
is_command : (h : Header) → IsHeader h → (course : Course) (c : Command) → IsFairCourse h.geometry.area h.retries course → asked_command h.geometry.area course ≡ Some c
    → IsCommand (layout_of h.geometry) c
is_command h header (Acquiring l mode again compares) c fair is =
    subst (IsCommand (layout_of h.geometry)) (some_value (Acquire (resource_of h.geometry.area l) (is_shared mode) lock_process false) c is)
    (locks_are_resources h header l fair.1, refl)
is_command h header (Reading l) c fair is =
    subst (IsCommand (layout_of h.geometry)) (some_value (GetLvb (resource_of h.geometry.area l) lock_process) c is) (locks_are_resources h header l fair.0, refl)
is_command h header (Writing l) c fair is =
    subst (IsCommand (layout_of h.geometry)) (some_value (SetLvb (resource_of h.geometry.area l) lock_process (1 ∷ [])) c is)
    (locks_are_resources h header l fair.0, refl, record { long = refl; each = refl })
is_command h header Moving c fair is = absurd (none_some c is)
is_command h header (Releasing l refused) c fair is = absurd (none_some c is)

pub whole_program_reads : WholeProgramReads
whole_program_reads h header course c fair is =
    command_of_text (layout_of h.geometry) (hosts_are_few h header) c (is_command h header course c fair is)

pub locks_are_held_when_due : LocksAreHeldWhenDue
locks_are_held_when_due h xs run due set =
    locks_are_held whole_program h xs (due_runs_are_answered whole_program h xs run (whole_program_reads h run.header) due set)
