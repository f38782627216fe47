-- What code makes of a member is what a host's state functions make of it.
use Rattle.sl_area.specs.AreaSizes.{Layout, layout_of}
use Rattle.sl_host_state.specs.HeardInputs.{asked_hearing, counted, is_heeded_by, joining_hearing, kept_heard, lease_hearing, lease_told, member_begun, member_hearing, member_leaving, renewing_hearing, turn_heard, watch_hearing}
use Rattle.sl_host_state.specs.KeptState.{HostState, LeaseState, MemberState}
use Rattle.sl_host_state.specs.MadeEffects.{is_lease_on}
use Rattle.sl_host_state.specs.declared.kept_parts.LeaseCall.{LeaseCall}
use Rattle.sl_host_state.specs.declared.kept_parts.OpenCall.{OpenCall}
use Rattle.sl_lease.proofs.SameLaws.{hosts_keep_the_same as leases_keep_the_same}
use Rattle.sl_lease.specs.LeaseQuestions.{leader_given, read_given}
use Rattle.sl_lease.specs.Changes.{after_failure, after_write, read_told, turn_told, write_told}
use Rattle.sl_lease.specs.Laws.{IsGiven, IsReadCall, first_by, open_at_step}
use Rattle.sl_lease.specs.declared.side.Side.{Side}
use Rattle.sl_trace.specs.Leases.{lease_step}
use Rattle.sl_member.specs.Laws.{HostsKeepTheSame, IsAwaited, IsAwaitedAt, IsWaitingFor, area_of_call, heard_by_parts, leases_told, waits_for}
use Rattle.sl_member.specs.Leases.{changed_at, kept_shown, read_shown}
use Rattle.sl_member.specs.Members.{RunOf, leaving_begun, own_told, recovery_begun}
use Rattle.sl_member.specs.HostMembers.{begun_by, begun_in, late_by, side_with}
use Rattle.sl_sector.specs.declared.sector.PairBlock.{PairBlock}
use Rattle.sl_trace.specs.declared.delta.DeltaKnown.{DeltaKnown}
use Rattle.sl_trace.specs.declared.effects.LeaseStep.{LeaseStep}
use Rattle.sl_trace.specs.declared.effects.Purpose.{Purpose}
use Rattle.sl_trace.specs.declared.effects.Work.{Work}
use Rattle.sl_trace.specs.declared.effects.Spot.{Spot}
use Rattle.sl_trace.specs.declared.input.Answer.TheVariants.{Failed, Read, Written}
use Rattle.sl_trace.specs.declared.input.Answer.{Answer}
use Rattle.std.proofs.Common.{ap, arith, inl, inr, refl, sym, ◌∙◌}
use Rattle.std.proofs.lemmas.Bool.Decides.{Decides-eqb}
use Rattle.std.specs.List.{AllByRecursion}
use Rattle.std.specs.Prelude.{Bool, List, None, Option, Some, cond, false, is_some, map, true, [], ℕ, ◌+◌, ◌-◌, ◌==◌, ◌∷◌, ◌≡◌, ◌⊎◌}

-- ---- the leases

-- A lease that doesn't wait for the call stays.
other_told : (h : HostState) (m : MemberState) (heeded : Bool) (c : OpenCall) (a : Answer) (l : LeaseState) → waits_for c.number l ≡ false → lease_told h m heeded c a l ≡ l
other_told h m heeded c a l none = by l.waiting none where
  told : LeaseCall → LeaseState
  told w = lease_hearing h.config.layout m.who.lockspace (record { id = m.who.id; generation = m.known.generation }) heeded c a w l

  by : (o : Option LeaseCall) → (elim o [ None ↦ false | Some w ↦ w.number == c.number ]) ≡ false → (elim o [ None ↦ l | Some w ↦ cond (w.number == c.number) (told w) l ]) ≡ l
  by None is = refl
  by (Some w) is = ap (λ b. cond b (told w) l) is

all_stay : (f : LeaseState → LeaseState) (ls : List LeaseState) → AllByRecursion (λ l. f l ≡ l) ls → map f ls ≡ ls
all_stay f [] h = refl
all_stay f (l ∷ ls) h = ap (λ x. x ∷ map f ls) h.0 ∙ ap (λ zs. l ∷ zs) (all_stay f ls h.1)

none_told : (h : HostState) (m : MemberState) (heeded : Bool) (c : OpenCall) (a : Answer) (ls : List LeaseState) → AllByRecursion (λ l. waits_for c.number l ≡ false) ls
    → AllByRecursion (λ l. lease_told h m heeded c a l ≡ l) ls
none_told h m heeded c a [] none = tt
none_told h m heeded c a (l ∷ ls) none = (other_told h m heeded c a l none.0, none_told h m heeded c a ls none.1)

here_told : (at : Spot) (f : LeaseState → LeaseState) (ls : List LeaseState) → AllByRecursion (λ l. (is_lease_on at l ≡ true) ⊎ (f l ≡ l)) ls → map f ls ≡ changed_at at f ls
here_told at f [] h = refl
here_told at f (l ∷ ls) h = ap (λ x. x ∷ map f ls) (by h.0) ∙ ap (λ zs. cond (is_lease_on at l) (f l) l ∷ zs) (here_told at f ls h.1) where
  either : (b : Bool) → f l ≡ l → f l ≡ cond b (f l) l
  either true same = refl
  either false same = same

  by : (is_lease_on at l ≡ true) ⊎ (f l ≡ l) → f l ≡ cond (is_lease_on at l) (f l) l
  by (inl on) = sym (ap (λ b. cond b (f l) l) on)
  by (inr same) = either (is_lease_on at l) same

here_or_stays : (h : HostState) (m : MemberState) (heeded : Bool) (c : OpenCall) (a : Answer) (at : Spot) (ls : List LeaseState)
    → AllByRecursion (λ l. (is_lease_on at l ≡ true) ⊎ (waits_for c.number l ≡ false)) ls → AllByRecursion (λ l. (is_lease_on at l ≡ true) ⊎ (lease_told h m heeded c a l ≡ l)) ls
here_or_stays h m heeded c a at [] k = tt
here_or_stays h m heeded c a at (l ∷ ls) k =
    (elim k.0 [ inl on ↦ inl on | inr off ↦ inr (other_told h m heeded c a l off) ], here_or_stays h m heeded c a at ls k.1)

-- What is asked of the leases, by the step of the call.
abbrev pub Awaits : HostState → OpenCall → List LeaseState → Option (Work × LeaseStep) → Type 0
Awaits h c ls None = AllByRecursion (λ l. waits_for c.number l ≡ false) ls
Awaits h c ls (Some p) = AllByRecursion (λ l. (is_lease_on (area_of_call h.config.layout c) l ≡ true) ⊎ (waits_for c.number l ≡ false)) ls

leases_are_told : (h : HostState) (c : OpenCall) (a : Answer) (m : MemberState) → IsAwaitedAt h c m.leases → map (lease_told h m (is_heeded_by h c) c a) m.leases ≡ leases_told h c a m
leases_are_told h c a m = by (lease_step c.purpose) where
  at : Spot
  at = area_of_call h.config.layout c

  by : (o : Option (Work × LeaseStep)) → Awaits h c m.leases o
      → map (lease_told h m (is_heeded_by h c) c a) m.leases
      ≡ (let ls : List LeaseState = elim o [ None ↦ m.leases | Some p ↦ changed_at (area_of_call h.config.layout c) (lease_told h m (is_heeded_by h c) c a) m.leases ] in ls)
  by None k = all_stay (lease_told h m (is_heeded_by h c) c a) m.leases (none_told h m (is_heeded_by h c) c a m.leases k)
  by (Some p) k = here_told (area_of_call h.config.layout c) (lease_told h m (is_heeded_by h c) c a) m.leases (here_or_stays h m (is_heeded_by h c) c a (area_of_call h.config.layout c) m.leases k)

-- ---- the member

hears : (h : HostState) (c : OpenCall) (a : Answer) (m : MemberState) → IsAwaited h c m → member_hearing h c a m ≡ heard_by_parts h c a m
hears h c a m k = ap (λ b. P b (map (lease_told h m (is_heeded_by h c) c a) m.leases)) k.busy ∙ ap (λ ls. Q ls) (leases_are_told h c a m k.leases) where
  P : Bool → List LeaseState → MemberState
  P b ls =
      let known : DeltaKnown = m.known in
      record m {
        known = record known { busy = b; recovering = is_some (renewing_hearing h c a m).recovery };
        joining = joining_hearing h c a m.joining;
        renewing = renewing_hearing h c a m;
        asked = asked_hearing h c a m.asked;
        watch = watch_hearing h c a m.watch;
        leases = ls;
      }

  Q : List LeaseState → MemberState
  Q ls =
      let s : MemberState = own_told c.purpose a h.reading m in
      let known : DeltaKnown = s.known in
      record s {
        known = record known { recovering = is_some (renewing_hearing h c a m).recovery };
        renewing = renewing_hearing h c a m;
        asked = asked_hearing h c a m.asked;
        watch = watch_hearing h c a m.watch;
        leases = ls;
      }

-- ---- one lease

one_number : (n k : ℕ) → n ≡ k → (n == k) ≡ true
one_number n k is = (Decides-eqb n k).1 is

-- The lease that waits for the call hears it.
awaited : (h : HostState) (m : MemberState) (heeded : Bool) (c : OpenCall) (w : LeaseCall) (a : Answer) (l : LeaseState) → IsWaitingFor c w l
    → lease_told h m heeded c a l
    ≡ lease_hearing h.config.layout m.who.lockspace (record { id = m.who.id; generation = m.known.generation }) heeded (open_at_step c w.work w.step) a w l
awaited h m heeded c w a l k =
    ap (λ o. elim o [ None ↦ l | Some v ↦ cond (v.number == c.number) (told c v) l ]) k.waiting ∙ ap (λ b. cond b (told c w) l) (one_number w.number c.number k.number)
    ∙ ap (λ (p : Purpose). told (record c { purpose = p }) w) k.purpose
  where
    told : OpenCall → LeaseCall → LeaseState
    told d v = lease_hearing h.config.layout m.who.lockspace (record { id = m.who.id; generation = m.known.generation }) heeded d a v l

laid : (run : RunOf) (h : HostState) (m : MemberState) (heeded : Bool) (c : OpenCall) (w : LeaseCall) (a : Answer) (l : LeaseState) → h.config.layout ≡ layout_of run.sizes
    → lease_hearing h.config.layout m.who.lockspace (record { id = m.who.id; generation = m.known.generation }) heeded (open_at_step c w.work w.step) a w l
    ≡ lease_hearing (layout_of run.sizes) m.who.lockspace (record { id = m.who.id; generation = m.known.generation }) heeded (open_at_step c w.work w.step) a w l
laid run h m heeded c w a l same =
    ap (λ (g : Layout). lease_hearing g m.who.lockspace (record { id = m.who.id; generation = m.known.generation }) heeded (open_at_step c w.work w.step) a w l) same

-- A read that gives something, with what is kept of the first one where it is the second.
reads : (run : RunOf) (h : HostState) (m : MemberState) (heeded : Bool) (c : OpenCall) (w : LeaseCall) (bytes : List ℕ) (l : LeaseState) → h.config.layout ≡ layout_of run.sizes
    → IsWaitingFor c w l → IsReadCall w → IsGiven (layout_of run.sizes) l.pair w.step bytes
    → lease_told h m heeded c (Read bytes) l
    ≡ read_shown (side_with run m) (turn_heard (layout_of run.sizes) m.who.id w.step None (Read bytes)) heeded
    (leader_given (layout_of run.sizes) (first_by l.pair w.step) w.step bytes) (read_given (layout_of run.sizes) (first_by l.pair w.step) w.step bytes) l
reads run h m heeded c w bytes l same k reading given =
    let z : Side = side_with run m in
    let first = first_by l.pair w.step in
    let d = leader_given (layout_of run.sizes) first w.step bytes in
    let read = read_given (layout_of run.sizes) first w.step bytes in
    let shown : LeaseState = turn_told (turn_heard (layout_of run.sizes) m.who.id w.step None (Read bytes)) l in
    awaited h m heeded c w (Read bytes) l k ∙ laid run h m heeded c w (Read bytes) l same ∙ leases_keep_the_same.read_answered z heeded c w bytes l reading given
    ∙ sym (ap (λ o. elim o [ None ↦ shown | Some v ↦ read_told z heeded v.step d read shown ]) k.waiting)

-- One that is to be made once more.
keeps : (run : RunOf) (h : HostState) (m : MemberState) (heeded : Bool) (c : OpenCall) (w : LeaseCall) (bytes : List ℕ) (pairs : List (Option PairBlock)) (l : LeaseState)
    → h.config.layout ≡ layout_of run.sizes → IsWaitingFor c w l → IsReadCall w → kept_heard (layout_of run.sizes) w.step (Read bytes) ≡ Some pairs
    → lease_told h m heeded c (Read bytes) l ≡ kept_shown (turn_heard (layout_of run.sizes) m.who.id w.step None (Read bytes)) pairs l
keeps run h m heeded c w bytes pairs l same k reading kept =
    awaited h m heeded c w (Read bytes) l k ∙ laid run h m heeded c w (Read bytes) l same ∙ leases_keep_the_same.read_kept (side_with run m) heeded c w bytes pairs l reading kept k.waiting

writes : (run : RunOf) (h : HostState) (m : MemberState) (heeded : Bool) (c : OpenCall) (w : LeaseCall) (l : LeaseState) → h.config.layout ≡ layout_of run.sizes → IsWaitingFor c w l
    → lease_told h m heeded c Written l ≡ after_write l
writes run h m heeded c w l same k =
    awaited h m heeded c w Written l k ∙ laid run h m heeded c w Written l same ∙ leases_keep_the_same.write_answered (side_with run m) heeded c w l
    ∙ sym (ap (λ o. elim o [ None ↦ l | Some v ↦ write_told v l ]) k.waiting)

fails : (run : RunOf) (h : HostState) (m : MemberState) (heeded : Bool) (c : OpenCall) (w : LeaseCall) (l : LeaseState) → h.config.layout ≡ layout_of run.sizes → IsWaitingFor c w l
    → lease_told h m heeded c Failed l ≡ after_failure l
fails run h m heeded c w l same k = awaited h m heeded c w Failed l k ∙ laid run h m heeded c w Failed l same ∙ leases_keep_the_same.failed (side_with run m) heeded c w l

-- ---- beginnings

one_back : (n : ℕ) → n + 1 - 1 ≡ n
one_back n = omega arith

begins : (now : ℕ) (h : HostState) (m : MemberState) → member_begun (counted now h) m ≡ begun_by h.config.timing now h.entries m
begins now h m = ap (λ n. cond (late_by h.config.timing now m) (recovery_begun (begun_in now n) m) m) (one_back h.entries)

leaves : (h : HostState) (m : MemberState) → m.leaving ≡ None
    → member_leaving h m ≡ leaving_begun (record { at = h.entries - 1; reading = h.reading; kills_from = h.entries }) h.next_job m
leaves h m none =
    ap (λ o. elim o [ Some b ↦ m | None ↦ leaving_begun (record { at = h.entries - 1; reading = h.reading; kills_from = h.entries }) h.next_job m ]) none

pub hosts_keep_the_same : HostsKeepTheSame
hosts_keep_the_same = record {
  calling = λ g m ms. refl;
  hearing = hears;
  lease_read = reads;
  lease_kept = keeps;
  lease_written = writes;
  lease_failed = fails;
  begun = begins;
  leaving = leaves;
}
