-- A version takes the place of any other of its group.
use Rattle.sl_area.specs.AreaSizes.{layout_with}
use Rattle.sl_run.specs.Lvm.{Course, Lvm, SeenValue}
use Rattle.sl_run.specs.declared.turn.LvmOut.{LvmOut}
use Rattle.sl_words.proofs.Lists.{contains_cases, contains_none, kept_inside}
use Rattle.sl_run.specs.EventChanges.{first_change, next_step, number_of_step}
use Rattle.sl_run.specs.Locks.{Locks, Told, left_locks, locks_after, numbered_locks}
use Rattle.sl_run.specs.Runs.{Happening}
use Rattle.sl_run.specs.Safety.{world_at}
use Rattle.sl_run.specs.Worlds.{Machine, Program, machine_of_header, stamp_now}
use Rattle.sl_run.specs.declared.header.Header.{Header}
use Rattle.sl_run_law.proofs.Course.MachinesKeep.{Goes_on, machines_keep}
use Rattle.sl_run_law.proofs.Course.MachineTurns.{Alone, Elsewhere, Stepped, Took}
use Rattle.sl_trace.specs.declared.effects.Effects.{Effects}
use Rattle.sl_trace.specs.declared.input.Input.{Input}
use Rattle.sl_trace.specs.declared.reply.Reply.{Reply}
use Rattle.sl_headline.proofs.Volumes.MachineLocks.{LocksTurn, New_locks, Same_locks, locks_turn, step_locks}
use Rattle.sl_headline.proofs.Volumes.VersionsWereTold.{line_seen, turn_lvm}
use Rattle.sl_headline.proofs.Volumes.LocksHold.{Line_given, LocksStep, None_given, Reply_given, emptied, locks_step, numbered_lvm}
use Rattle.sl_headline.proofs.Volumes.LockTurns.{Asks_again, HostTurn, Moved, Read_none, Read_torn, Read_value, Released, Took_lock, Took_to_read, Wrote_none, Wrote_value}
use Rattle.sl_headline.specs.Volumes.OneVersion.{VersionsAreKnownOnce}
use Rattle.sl_words.proofs.CaseLaws.{false_is_true}
use Rattle.std.proofs.Common.{ap, inl, inr, subst, sym, ◌∙◌}
use Rattle.std.proofs.lemmas.Slice.Eq.{bytes_eq-Decides}
use Rattle.std.specs.Prelude.{Bool, Contains, List, bytes_eq, false, filter, if◌then◌else◌, not, true, [], ℕ, ◌∷◌, ◌≡◌, ◌⊎◌}

-- ---- lists of versions

abbrev One : List SeenValue → Type 0
One vs = (v u : SeenValue) → Contains vs v → Contains vs u → v.group ≡ u.group → v ≡ u

abbrev without : List ℕ → List SeenValue → List SeenValue
without group vs = filter (λ (u : SeenValue). not (bytes_eq u.group group)) vs

fewer : (group : List ℕ) (vs : List SeenValue) → One vs → One (without group vs)
fewer group vs one v u has also same =
    one v u (kept_inside (λ (x : SeenValue). not (bytes_eq x.group group)) vs v has).0 (kept_inside (λ (x : SeenValue). not (bytes_eq x.group group)) vs u also).0 same

same_bytes : (a b : List ℕ) → a ≡ b → bytes_eq a b ≡ true
same_bytes a b is = (bytes_eq-Decides a b).1 is

not_other : (group : List ℕ) (vs : List SeenValue) (u : SeenValue) → Contains (without group vs) u → u.group ≡ group → ⊥
not_other group vs u has is =
    false_is_true (sym (ap not (same_bytes u.group group is)) ∙ (kept_inside (λ (x : SeenValue). not (bytes_eq x.group group)) vs u has).1)

more : (w : SeenValue) (vs : List SeenValue) → One vs → One (w ∷ without w.group vs)
more w vs one v u has also same = by (contains_cases w (without w.group vs) v has) (contains_cases w (without w.group vs) u also) where
  by : (w ≡ v) ⊎ Contains (without w.group vs) v → (w ≡ u) ⊎ Contains (without w.group vs) u → v ≡ u
  by (inl first) (inl second) = sym first ∙ second
  by (inl first) (inr old) = absurd (not_other w.group vs u old (sym same ∙ sym (ap (λ (x : SeenValue). x.group) first)))
  by (inr old) (inl second) = absurd (not_other w.group vs v old (same ∙ sym (ap (λ (x : SeenValue). x.group) second)))
  by (inr old) (inr other) = fewer w.group vs one v u old other same

-- ---- turns

host_one : (m : Lvm) (r : Reply) (c : Course) (t : Lvm × LvmOut) → HostTurn m r c t → One m.seen → One t.0.seen
host_one m r c t (Moved is) one = subst (λ (y : Lvm × LvmOut). One y.0.seen) (sym is) one
host_one m r c t (Took_to_read lock mode again was ok is) one = subst (λ (y : Lvm × LvmOut). One y.0.seen) (sym is) one
host_one m r c t (Took_lock lock mode again was ok is) one = subst (λ (y : Lvm × LvmOut). One y.0.seen) (sym is) one
host_one m r c t (Asks_again lock mode again compares was few is) one = subst (λ (y : Lvm × LvmOut). One y.0.seen) (sym is) one
host_one m r c t (Read_value l lver seq bytes was told is) one =
    subst (λ (y : Lvm × LvmOut). One y.0.seen) (sym is) (more (record { group = l.group; lver = lver; seq = seq }) m.seen one)
host_one m r c t (Read_torn l was is) one = subst (λ (y : Lvm × LvmOut). One y.0.seen) (sym is) (fewer l.group m.seen one)
host_one m r c t (Read_none l was other is) one = subst (λ (y : Lvm × LvmOut). One y.0.seen) (sym is) (fewer l.group m.seen one)
host_one m r c t (Wrote_value l lver seq was told is) one =
    subst (λ (y : Lvm × LvmOut). One y.0.seen) (sym is) (more (record { group = l.group; lver = lver; seq = seq }) m.seen one)
host_one m r c t (Wrote_none l was is) one = subst (λ (y : Lvm × LvmOut). One y.0.seen) (sym is) (fewer l.group m.seen one)
host_one m r c t (Released lock refused s was is) one = subst (λ (y : Lvm × LvmOut). One y.0.seen) (sym is) one

turn_one : (i : Input) (fx : Effects) (k : Locks) (q : Locks × Told) → LocksStep i fx k q → One k.lvm.seen → One q.0.lvm.seen
turn_one i fx k q (Line_given text t is turn same) one =
    subst One (sym (ap (λ (p : Locks × Told). p.0.lvm.seen) same ∙ ap (λ (m : Lvm). m.seen) (turn_lvm k t.0 t.1) ∙ line_seen k.lvm _ t turn)) one
turn_one i fx k q (Reply_given n a c t asked found at turn same) one =
    subst One (sym (ap (λ (p : Locks × Told). p.0.lvm.seen) same ∙ ap (λ (m : Lvm). m.seen) (turn_lvm k t.0 t.1))) (host_one k.lvm a.reply c t turn one)
turn_one i fx k q (None_given same) one = subst (λ (p : Locks × Told). One p.0.lvm.seen) (sym same) one

none_one : One []
none_one v u has also same = absurd (contains_none v has)

if_ends : (k : Locks) (t : Bool) → One k.lvm.seen → One (if t then emptied k else k).lvm.seen
if_ends k true one = none_one
if_ends k false one = one

step_one : (number : ℕ) (i : Input) (fx : Effects) (k : Locks) → One k.lvm.seen → One (locks_after number i fx k).0.lvm.seen
step_one number i fx k one =
    let s = locks_step number i fx k in
    subst (λ (y : Locks). One y.lvm.seen) (sym s.same)
    (if_ends s.turn.0 s.ends (turn_one i fx (numbered_locks number i (left_locks fx k)) s.turn s.step (subst (λ (m : Lvm). One m.seen) (sym (numbered_lvm number i (left_locks fx k))) one)))

-- ---- machines

abbrev MachineOne : Machine → Type 0
MachineOne a = One a.locks.lvm.seen

turned_one : (h : Header) (a b : Machine) → LocksTurn h a b → MachineOne a → MachineOne b
turned_one h a b (Same_locks is) one = subst (λ (k : Locks). One k.lvm.seen) (sym is) one
turned_one h a b (New_locks is) one = subst (λ (k : Locks). One k.lvm.seen) (sym is) none_one

stepped_one : (p : Program) (h : Header) (now : List Happening) (x : Happening) (m : ℕ) (a c : Machine) (g : Goes_on p h now x m a c)
    → Stepped (world_at p h now) x.0 g.effects m g.becomes.middle c → MachineOne g.becomes.middle → MachineOne c
stepped_one p h now x m a c g (Elsewhere is) one = subst MachineOne (sym is) one
stepped_one p h now x m a c g (Alone none here is) one = subst MachineOne (sym is) one
stepped_one p h now x m a c g (Took i has here is) one =
    let b : Machine = g.becomes.middle in
    subst (λ (k : Locks). One k.lvm.seen) (sym (ap (λ (y : Machine). y.locks) is ∙ step_locks (stamp_now (next_step (first_change x.0 (world_at p h now))) b) i g.effects b))
    (step_one (number_of_step b) i g.effects b.locks one)

keeps : (p : Program) (h : Header) (now : List Happening) (x : Happening) (m : ℕ) (a c : Machine) → Goes_on p h now x m a c → MachineOne a → MachineOne c
keeps p h now x m a c g one =
    stepped_one p h now x m a c g g.becomes.stepped
    (turned_one (world_at p h now).header a g.becomes.middle (locks_turn (world_at p h now) x.0 m a g.becomes.middle g.becomes.turned) one)

first : (p : Program) (h : Header) (m : ℕ) → MachineOne (machine_of_header p (layout_with p.digest h.geometry) h m)
unfolding machine_of_header
first p h m = none_one

pub versions_are_known_once : VersionsAreKnownOnce
versions_are_known_once p h xs run m a at = machines_keep p h (λ w n. MachineOne) (first p h) (keeps p h) xs run m a at
