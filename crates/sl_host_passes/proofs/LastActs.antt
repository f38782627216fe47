-- What is found of a session that holds nothing, and what its last act leaves of what is known.
use Rattle.sl_area.specs.AreaSizes.{layout_of}
use Rattle.sl_host_law.specs.Answers.CarriedDecisions.{carrying, own_sector, writing_own}
use Rattle.sl_host_law.specs.Decisions.CommandDecisions.{held_of}
use Rattle.sl_host_law.specs.StepParts.Ends.{ending_in, finishing, freeing_for, freeing_in, removing}
use Rattle.sl_host_law.specs.StepParts.Wakes.{delta_in}
use Rattle.sl_host_law.specs.Questions.Members.{has_call_open}
use Rattle.sl_host_law.specs.Steps.Passes.{at_member, member_numbered}
use Rattle.sl_host_passes.proofs.RunsStay.{same_config, same_reading}
use Rattle.sl_host_passes.specs.SessionFinish.{IsLast, last_next, last_of, lasting_on, may_end_at}
use Rattle.sl_host_passes.specs.PassPremises.{FinishKnown}
use Rattle.sl_host_state.specs.KeptState.{HostKept, HostState, MemberState}
use Rattle.sl_host_state.specs.MadeEffects.{has_write_open, is_ended_by_move, joining_calling, known_calling, leases_calling, member_calling, next_submitted, with_move}
use Rattle.sl_host_work.specs.NextDecisions.{IsPlain}
use Rattle.sl_host_work.specs.SectorPlaces.{IsPlaced}
use Rattle.sl_member.specs.Members.{MemberKept, RunOf, delta_lease}
use Rattle.sl_words.proofs.Lists.{in_map, kept_inside}
use Rattle.sl_sector.specs.Bitmaps.{no_bits}
use Rattle.sl_sector.specs.Records.{Fits}
use Rattle.sl_sector.specs.declared.sector.DeltaRec.{DeltaRec}
use Rattle.sl_sector.specs.declared.sector.DeltaState.TheVariants.{Free}
use Rattle.sl_sector.specs.declared.sector.Rec.TheVariants.{DeltaIs}
use Rattle.sl_trace.specs.DeltaDecisions.{DeltaLease, delta_record, next_free}
use Rattle.sl_trace.specs.declared.delta.DeltaKnown.{DeltaKnown}
use Rattle.sl_trace.specs.declared.delta.DeltaNext.TheVariants.{Disconnect, EndLeaving, Join, MoveConnection, Nothing, ReadOwn, RefuseJoin, RegisterAndRead, WriteClaim, WriteFirst, WriteFree, WriteRenewal}
use Rattle.sl_trace.specs.declared.delta.DeltaNext.{DeltaNext}
use Rattle.sl_trace.specs.declared.session.Session.{Session}
use Rattle.sl_tables.specs.Holdings.{fits, least_holder}
use Rattle.sl_trace.specs.Traces.{Submitted, is_orphan}
use Rattle.sl_trace.specs.declared.effects.Grant.{Grant}
use Rattle.sl_trace.specs.declared.effects.Move.TheVariants.{Unregister}
use Rattle.sl_trace.specs.declared.effects.Op.TheVariants.{WriteRecord}
use Rattle.sl_trace.specs.declared.effects.Purpose.TheVariants.{Leaving}
use Rattle.sl_host.specs.BookQuestions.{held_under, state_in}
use Rattle.sl_host.specs.Host.{Becomes, HostView, SameRun}
use Rattle.sl_host.specs.NextHolder.{above}
use Rattle.sl_words.proofs.CaseLaws.{true_is_false}
use Rattle.sl_words.specs.Bounds.{moments}
use Rattle.sl_words.specs.Words.{is_empty, least}
use Rattle.std.proofs.Common.{ap, arith, refl, subst, sym, ◌∙◌}
use Rattle.std.specs.List.{list_any}
use Rattle.std.specs.Prelude.{Bool, Contains, Err, List, None, Option, Some, [], bytes_eq, cond, false, filter, is_some, map, min, nat_lt, not, true, ℕ, ◌&&◌, ◌+◌, ◌<◌, ◌==◌, ◌||◌, ◌∷◌, ◌≡◌}

-- ---- nothing is held

some_least : (x : ℕ) (o : Option ℕ) → is_some (elim o as (λ z. Option ℕ) [ None ↦ Some x | Some y ↦ Some (min x y) ]) ≡ true
some_least x None = refl
some_least x (Some y) = refl

above_none : (p : ℕ) → (p == 0) ≡ true → nat_lt 0 p ≡ false
above_none p is = grind (arith, is)

above_some : (p : ℕ) → (p == 0) ≡ false → nat_lt 0 p ≡ true
above_some p is = grind (arith, is)

-- Neither a process above 0 nor 0 itself.
pub none_held : (n : ℕ) (held : List Grant) → (not (list_any is_orphan (held_under n held)) && not (is_some (least_holder (above n 0) held))) ≡ is_empty (held_under n held)
none_held n [] = refl
none_held n (g ∷ gs) = by (g.session == n) (g.process == 0) refl (none_held n gs) where
  last : (b : Bool) → (b && false) ≡ false
  last true = refl
  last false = refl

  its : (a : Bool) → (g.process == 0) ≡ a
      → (not (a || list_any is_orphan (held_under n gs)) && not (is_some (least (map (λ k. k.process) (cond (nat_lt 0 g.process && true && true && true) (g ∷ filter (fits (above n 0)) gs) (filter (fits (above n 0)) gs)))))) ≡ false
  its true is = refl
  its false is =
      ap (λ b. not (list_any is_orphan (held_under n gs)) && not (is_some (least (map (λ (k : Grant). k.process) (cond (b && true && true && true) (g ∷ filter (fits (above n 0)) gs) (filter (fits (above n 0)) gs)))))) (above_some g.process is)
      ∙ (ap (λ b. not (list_any is_orphan (held_under n gs)) && not b) (some_least g.process (least (map (λ (k : Grant). k.process) (filter (fits (above n 0)) gs))))
      ∙ last (not (list_any is_orphan (held_under n gs))))

  skip : (a : Bool) → (a && false && true && true) ≡ false
  skip true = refl
  skip false = refl

  by : (b a : Bool) → (g.process == 0) ≡ a → (not (list_any is_orphan (held_under n gs)) && not (is_some (least_holder (above n 0) gs))) ≡ is_empty (held_under n gs)
      → (not (list_any is_orphan (cond b (g ∷ held_under n gs) (held_under n gs)))
      && not (is_some (least (map (λ k. k.process) (cond (nat_lt 0 g.process && b && true && true) (g ∷ filter (fits (above n 0)) gs) (filter (fits (above n 0)) gs))))))
      ≡ is_empty (cond b (g ∷ held_under n gs) (held_under n gs))
  by true a is rest = ap (λ z. not (z || list_any is_orphan (held_under n gs)) && not (is_some (least (map (λ (k : Grant). k.process) (cond (nat_lt 0 g.process && true && true && true) (g ∷ filter (fits (above n 0)) gs) (filter (fits (above n 0)) gs)))))) is ∙ its a is
  by false a is rest =
      ap (λ b. not (list_any is_orphan (held_under n gs)) && not (is_some (least (map (λ (k : Grant). k.process) (cond b (g ∷ filter (fits (above n 0)) gs) (filter (fits (above n 0)) gs)))))) (skip (nat_lt 0 g.process)) ∙ rest

pub nothing_held : (n : ℕ) (held : List Grant) (orphan above_it : Bool) → orphan ≡ list_any is_orphan (held_under n held) → above_it ≡ is_some (least_holder (above n 0) held)
    → (not orphan && not above_it) ≡ is_empty (held_under n held)
nothing_held n held orphan above_it one two = ap (λ b. not b && not above_it) one ∙ (ap (λ b. not (list_any is_orphan (held_under n held)) && not b) two ∙ none_held n held)

-- ---- what comes last

pub last_is_plain : (next : DeltaNext) → IsLast next → IsPlain next
last_is_plain Nothing is = tt
last_is_plain Disconnect is = tt
last_is_plain (WriteFree j d) is = tt
last_is_plain (RefuseJoin r) is = absurd is
last_is_plain (ReadOwn step) is = absurd is
last_is_plain (RegisterAndRead step) is = absurd is
last_is_plain (WriteClaim d) is = absurd is
last_is_plain (WriteFirst d) is = absurd is
last_is_plain (Join generation renewed) is = absurd is
last_is_plain (MoveConnection renewed) is = absurd is
last_is_plain (WriteRenewal d) is = absurd is
last_is_plain (EndLeaving j r) is = absurd is

pub last_joins_not : (next : DeltaNext) (generation renewed : ℕ) → IsLast next → next ≡ Join generation renewed → ⊥
last_joins_not next generation renewed last is = subst IsLast is last

pub free_is_last : (l : DeltaLease) (now : ℕ) (k : DeltaKnown) → IsLast (next_free l now k)
free_is_last l now k = by k.leaving k.freed where
  by : (o : Option ℕ) (b : Bool)
      → IsLast (elim o as (λ z. DeltaNext) [ None ↦ Nothing | Some j ↦ elim b as (λ z. DeltaNext) [ true ↦ Nothing | false ↦ WriteFree j (delta_record l Free k.generation (k.seq + 1) now no_bits) ] ])
  by None b = tt
  by (Some j) true = tt
  by (Some j) false = tt

-- Nothing is written where nobody leaves, or it was written.
pub free_not : (l : DeltaLease) (now : ℕ) (k : DeltaKnown) → k.leaving ≡ None → Nothing ≡ next_free l now k
free_not l now k is =
    sym (ap (λ (o : Option ℕ). elim o as (λ z. DeltaNext) [ None ↦ Nothing | Some j ↦ elim k.freed as (λ z. DeltaNext) [ true ↦ Nothing | false ↦ WriteFree j (delta_record l Free k.generation (k.seq + 1) now no_bits) ] ]) is)

pub free_done : (l : DeltaLease) (now : ℕ) (k : DeltaKnown) → k.freed ≡ true → Nothing ≡ next_free l now k
free_done l now k is =
    sym (ap (λ (b : Bool). elim k.leaving as (λ z. DeltaNext) [ None ↦ Nothing | Some j ↦ elim b as (λ z. DeltaNext) [ true ↦ Nothing | false ↦ WriteFree j (delta_record l Free k.generation (k.seq + 1) now no_bits) ] ]) is ∙ by k.leaving) where
      by : (o : Option ℕ) → elim o as (λ z. DeltaNext) [ None ↦ Nothing | Some j ↦ Nothing ] ≡ Nothing
      by None = refl
      by (Some j) = refl

-- Where nothing is written, the test whether something is held says nothing.
pub nothing_either : (free : Bool) (next : DeltaNext) → next ≡ Nothing → Nothing ≡ cond free next Nothing
nothing_either true next is = sym is
nothing_either false next is = refl

abbrev lease_by : RunOf → MemberState → DeltaLease
lease_by r m = record { timing = r.timing; layout = layout_of r.sizes; host = r.host; lockspace = m.who.lockspace; id = m.who.id }

pub free_here : (k : HostKept) (m : MemberKept) (now : ℕ) (next : DeltaNext) → m.run ≡ record { timing = k.config.timing; sizes = k.config.sizes; host = k.config.name } → now ≡ k.reading
    → next ≡ next_free (delta_lease m) now m.state.known → next ≡ next_free (delta_in (state_in k) m.state) k.reading m.state.known
free_here k m now next run moment is = is ∙ (λ i. next_free (lease_by (run i) m.state) (moment i) m.state.known)

-- What was found is done, as the member finishes.
finishes : (m : MemberState) (h : HostState) → carrying m.who (last_next h m) h ≡ finishing m h
finishes m h = by m.joined (is_some m.renewing.recovery) (is_empty (held_of h m) && not (has_write_open h m.who.number)) (is_empty (held_of h m) && not (has_call_open h m.who.number)) where
  free : (o : Option ℕ) (b : Bool)
      → carrying m.who (elim o as (λ z. DeltaNext) [ None ↦ Nothing | Some j ↦ elim b as (λ z. DeltaNext) [ true ↦ Nothing | false ↦ WriteFree j (delta_record (delta_in h m) Free m.known.generation (m.known.seq + 1) h.reading no_bits) ] ]) h
      ≡ elim o as (λ z. HostState) [
        | None ↦ h
        | Some j ↦ cond b h (writing_own m.who (Leaving j) (delta_record (delta_in h m) Free m.known.generation (m.known.seq + 1) h.reading no_bits) h)
      ]
  free None b = refl
  free (Some j) true = refl
  free (Some j) false = refl

  freed : (o : Option ℕ) → freeing_for m o h ≡ elim o as (λ z. HostState) [
    | None ↦ h
    | Some j ↦ cond m.known.freed h (writing_own m.who (Leaving j) (delta_record (delta_in h m) Free m.known.generation (m.known.seq + 1) h.reading no_bits) h)
  ]
  freed None = refl
  freed (Some j) = refl

  by : (a b c d : Bool)
      → carrying m.who (cond a (cond b (cond c Disconnect Nothing) (cond d (next_free (delta_in h m) h.reading m.known) Nothing)) Nothing) h
      ≡ cond a (cond b (cond c (removing m.who.lockspace h) h) (cond d (freeing_for m m.known.leaving h) h)) h
  by false b c d = refl
  by true true true d = refl
  by true true false d = refl
  by true false c true = free m.known.leaving m.known.freed ∙ sym (freed m.known.leaving)
  by true false c false = refl

pub finishes_on : (h : HostState) (n : ℕ) → lasting_on (last_of h (member_numbered h n)) h ≡ at_member n finishing h
finishes_on h n = by (member_numbered h n) where
  by : (o : Option MemberState) → lasting_on (last_of h o) h ≡ elim o as (λ z. HostState) [ None ↦ h | Some m ↦ finishing m h ]
  by None = refl
  by (Some m) = finishes m h

-- Of a member that is neither in recovery nor left nothing comes last.
pub nothing_last : (h : HostState) (n : ℕ) → may_end_at (member_numbered h n) ≡ false → h ≡ at_member n finishing h
nothing_last h n is = at (member_numbered h n) is where
  by : (m : MemberState) (joined recovers free : Bool) (o : Option ℕ) → (joined && (recovers || is_some o)) ≡ false
      → h ≡ cond joined (cond recovers (ending_in m h) (cond free (freeing_for m o h) h)) h
  by m false recovers free o is = refl
  by m true true free o is = absurd (true_is_false is)
  by m true false free (Some j) is = absurd (true_is_false is)
  by m true false true None is = refl
  by m true false false None is = refl

  at : (o : Option MemberState) → may_end_at o ≡ false → h ≡ elim o as (λ z. HostState) [ None ↦ h | Some m ↦ finishing m h ]
  at None is = refl
  at (Some m) is = by m m.joined (is_some m.renewing.recovery) (is_empty (held_of h m) && not (has_call_open h m.who.number)) m.known.leaving is

-- ---- what is known stays

-- Each member is one of before, and unless its free was written the same is known of it.
abbrev KeepsLeft : HostState → HostState → Type 0
KeepsLeft a b = (n : MemberState) → Contains b.members n → (o : MemberState) × Contains a.members o × (n.who ≡ o.who) × (n.joined ≡ o.joined) × (n.known.freed ≡ false → n.known ≡ o.known)

keeps_not : (h : HostState) → KeepsLeft h h
keeps_not h n there = (n, there, refl, refl, λ is. refl)

keeps_where : (b : Bool) (h f g : HostState) → KeepsLeft h f → KeepsLeft h g → KeepsLeft h (cond b f g)
keeps_where true h f g x y = x
keeps_where false h f g x y = y

keeps_removing : (name : List ℕ) (h : HostState) → KeepsLeft h (removing name h)
keeps_removing name h =
    keeps_where (list_any (λ n. bytes_eq n name) h.connected) h (with_move (Unregister name) h) h
    (λ n there. (n, (kept_inside (λ (m : MemberState). not (is_ended_by_move (Unregister name) m)) h.members n there).0, refl, refl, λ is. refl)) (keeps_not h)

-- A member of before, by the test whether the free is its own.
freed_so : (h : HostState) (c : Submitted) (m : MemberState) → Contains h.members m → (known_calling c m.known).freed ≡ true → (b : Bool)
    → (let z : MemberState = cond b (record m { known = known_calling c m.known; joining = joining_calling c m.joining; leases = leases_calling h.config.layout c m.leases }) m in
    (o : MemberState) × Contains h.members o × (z.who ≡ o.who) × (z.joined ≡ o.joined) × (z.known.freed ≡ false → z.known ≡ o.known))
freed_so h c m its done true = (m, its, refl, refl, λ is. absurd (true_is_false (sym done ∙ is)))
freed_so h c m its done false = (m, its, refl, refl, λ is. refl)

keeps_freeing : (s : Session) (j : ℕ) (d : DeltaRec) (h : HostState) → KeepsLeft h (writing_own s (Leaving j) d h)
keeps_freeing s j d h n there =
    let c : Submitted = next_submitted h s.number s.path (Leaving j) (own_sector h s) (WriteRecord (DeltaIs d)) in
    let from = in_map (member_calling h.config.layout c) h.members n there in
    subst (λ (z : MemberState). (o : MemberState) × Contains h.members o × (z.who ≡ o.who) × (z.joined ≡ o.joined) × (z.known.freed ≡ false → z.known ≡ o.known)) from.2
    (freed_so h c from.0 from.1 refl (s.number == from.0.who.number))

pub keeps_finishing : (m : MemberState) (h : HostState) → KeepsLeft h (finishing m h)
keeps_finishing m h =
    keeps_where m.joined h (cond (is_some m.renewing.recovery) (ending_in m h) (freeing_in m h)) h
    (keeps_where (is_some m.renewing.recovery) h (ending_in m h) (freeing_in m h)
    (keeps_where (is_empty (held_of h m) && not (has_write_open h m.who.number)) h (removing m.who.lockspace h) h (keeps_removing m.who.lockspace h) (keeps_not h))
    (keeps_where (is_empty (held_of h m) && not (has_call_open h m.who.number)) h (freeing_for m m.known.leaving h) h (free m.known.leaving) (keeps_not h))) (keeps_not h) where
      free : (o : Option ℕ) → KeepsLeft h (freeing_for m o h)
      free None = keeps_not h
      free (Some j) =
          keeps_where m.known.freed h h (writing_own m.who (Leaving j) (delta_record (delta_in h m) Free m.known.generation (m.known.seq + 1) h.reading no_bits) h) (keeps_not h)
          (keeps_freeing m.who j (delta_record (delta_in h m) Free m.known.generation (m.known.seq + 1) h.reading no_bits) h)

pub finish_known : (old new : HostView) (n : ℕ) → Becomes old new (at_member n finishing) → SameRun old new → FinishKnown old.kept → FinishKnown new.kept
finish_known old new n comes run known =
    record {
      now = subst (λ r. r < moments) (sym (same_reading old new run)) known.now;
      placed = λ m there. (let from = keeps m there in
          subst (λ c. IsPlaced c.sizes m.who) (sym (same_config old new run)) (subst (IsPlaced old.kept.config.sizes) (sym from.2) (known.placed from.0 from.1)));
      left = λ m j there joined leaving freed. (let from = keeps m there in
          let same : m.known ≡ from.0.known = from.4 freed in
          subst (λ (k : DeltaKnown). Fits (k.seq + 1)) (sym same)
          (known.left from.0 j from.1 (sym from.3 ∙ joined) (ap (λ (k : DeltaKnown). k.leaving) (sym same) ∙ leaving) (ap (λ (k : DeltaKnown). k.freed) (sym same) ∙ freed)));
    } where
      found : (o : Option MemberState) → KeepsLeft (state_in old.kept) (elim o as (λ z. HostState) [ None ↦ state_in old.kept | Some m ↦ finishing m (state_in old.kept) ])
      found None = keeps_not (state_in old.kept)
      found (Some m) = keeps_finishing m (state_in old.kept)

      keeps : KeepsLeft (state_in old.kept) (state_in new.kept)
      keeps = subst (KeepsLeft (state_in old.kept)) (sym (comes (λ text. Err 0))) (found (member_numbered (state_in old.kept) n))
