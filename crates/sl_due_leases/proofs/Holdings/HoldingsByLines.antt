-- What a command comes to keeps the facts of holdings.
use Rattle.sl_due_facts.proofs.Acts.DecisionsAreTheirs.{Of, decisions_are_theirs}
use Rattle.sl_due_facts.proofs.Acts.Pairs.Decisions.{conversion_is, release_is}
use Rattle.sl_due_facts.proofs.Acts.PlainActs.{line_has}
use Rattle.sl_due_facts.specs.Acts.Acts.{Has, next_of_conversion, next_of_release}
use Rattle.sl_due_facts.specs.Acts.DueDaemons.{IsDecidedFor}
use Rattle.sl_due_facts.specs.Acts.TraceSoFar.{entry_of}
use Rattle.sl_area.specs.AreaLayout.{delta_offset, is_base, value_offset}
use Rattle.sl_due.specs.DueCommands.{after_end, carry_decision, decided}
use Rattle.sl_due.specs.CarriedLease.{carry_lease, grant_for}
use Rattle.sl_due.specs.Steps.{Step, add_call_of, add_end, add_reply, seen, with_input}
use Rattle.sl_due.specs.declared.decision.Decision.TheVariants.{ConvertsTo, GetsValue, GivesUp, Joins, Leaves, ReadsArea, Replies, Requests, SetsValue, Shares, TakesOver}
use Rattle.sl_due.specs.declared.decision.Decision.{Decision}
use Rattle.sl_due_leases.proofs.Holdings.DecisionsHaveGrounds.{decisions_have_grounds}
use Rattle.sl_due_leases.proofs.Holdings.HoldingsByCalls.{CallSpares, call_added, call_held}
use Rattle.sl_due_leases.proofs.Holdings.HoldingsByDeltas.{plain_spared}
use Rattle.sl_due_leases.proofs.Holdings.HoldingsByEffects.{HoldsAt, end_held, end_inside, later_same, reply_held}
use Rattle.sl_due_leases.proofs.Holdings.HoldingsByExits.{ends_itself, not_ended}
use Rattle.sl_due_leases.proofs.Holdings.HoldingsByInputs.{children_seen, input_held, is_no_answer, sessions_seen_still}
use Rattle.sl_due_leases.proofs.Holdings.HoldingsByLeases.{IsAligned, base_aligned, IsNoGrant, OfExclusive, carried_held}
use Rattle.sl_due_leases.proofs.Holdings.HoldingsByLoops.{AnswersNoJob, stopped_held}
use Rattle.sl_due_leases.proofs.Holdings.LeaseBeside.{DoesBeside}
use Rattle.sl_due_leases.proofs.Holdings.LeaseConversions.{spot_is}
use Rattle.sl_due_leases.proofs.Holdings.LeaseGrants.{IsNewThere, PlaceFor, granted_held}
use Rattle.sl_due_leases.proofs.Holdings.PlainPlaces.{one_place, place_turned, text_is}
use Rattle.sl_due_leases.proofs.Holdings.StandsGrow.{stands_same}
use Rattle.sl_due_leases.specs.Holdings.DecisionGrounds.{AcquireGrounds, AsksLease, ConvertGrounds, HasGrounds, IsFreeFor, SharesGrounds, TakeOverGrounds}
use Rattle.sl_run.specs.Lawful.{IsSetting}
use Rattle.sl_trace.specs.Ballots.{moded_block}
use Rattle.sl_trace.specs.Counts.{held_here, may_act}
use Rattle.sl_trace.specs.Jobs.{process_named, resource_named, wants_shared}
use Rattle.sl_trace.specs.LeaseDecisions.{LeasePlace, lease_place}
use Rattle.sl_trace.specs.Conversions.{convert_next}
use Rattle.sl_trace.specs.Releases.{release_next}
use Rattle.sl_trace.specs.Leases.{LeaseKnown, block_submitted, holdings_on, known, lease_calls, spot_of}
use Rattle.sl_trace.specs.declared.lease.LeaseNext.TheVariants.{Nothing, ReadFor, WriteBlock}
use Rattle.sl_words.proofs.Lists.{any_of, contains_none, find_inside, kept, kept_inside}
use Rattle.sl_words.proofs.Numbers.{lt_then_le, number_itself}
use Rattle.sl_sector.specs.declared.sector.Block.{Block}
use Rattle.sl_sector.specs.declared.sector.Rec.TheVariants.{ValueIs}
use Rattle.sl_trace.specs.Sessions.{holdings_of, is_active, is_joined, leaving_job, present_sessions, recovery_of, session_named, session_numbered, sessions}
use Rattle.sl_trace.specs.declared.session.Session.{Session}
use Rattle.sl_due_facts.specs.Facts.HeardCall.{heard_by}
use Rattle.sl_due_facts.specs.Facts.HoldingFacts.{StandsExclusive}
use Rattle.sl_trace.specs.CommandForms.{IsCommand, IsResourceArg}
use Rattle.sl_trace.specs.CountLimits.{most_children, most_processes}
use Rattle.sl_trace.specs.Traces.{Child, Setting, Trace, child_numbered, children, end_of, holdings, is_child, is_ended_by, is_orphan, is_shared, next_child, same_place, spot_of_grant}
use Rattle.sl_trace.specs.declared.command.Command.{Command}
use Rattle.sl_trace.specs.declared.command.LockspaceArg.{LockspaceArg}
use Rattle.sl_trace.specs.declared.command.ResourceArg.{ResourceArg}
use Rattle.sl_trace.specs.declared.effects.Call.{Call}
use Rattle.sl_trace.specs.declared.effects.Grant.{Grant}
use Rattle.sl_trace.specs.declared.effects.JoinStep.TheVariants.{FirstRead}
use Rattle.sl_trace.specs.declared.effects.LeaseStep.TheVariants.{ClearMode, ReadArea, SetMode}
use Rattle.sl_trace.specs.declared.effects.Mode.TheVariants.{Exclusive, Shared}
use Rattle.sl_trace.specs.declared.effects.Mode.{Mode}
use Rattle.sl_trace.specs.declared.effects.Op.TheVariants.{ReadSectors, WriteRecord}
use Rattle.sl_trace.specs.declared.effects.Purpose.TheVariants.{Joining, RequestRead, ValueRead, ValueWrite}
use Rattle.sl_trace.specs.declared.effects.Spot.{Spot}
use Rattle.sl_trace.specs.declared.effects.Work.TheVariants.{ForJob}
use Rattle.sl_trace.specs.declared.input.Input.TheVariants.{Line, Wake}
use Rattle.sl_trace.specs.declared.reply.Reply.TheVariants.{Done}
use Rattle.sl_run_law.proofs.Leases.NumberLaws.{number_is_place}
use Rattle.sl_words.proofs.CaseLaws.{none_some, not_both, one_value, some_value, true_is_false}
use Rattle.sl_words.proofs.OptionLaws.{choose_none}
use Rattle.sl_words.proofs.WordLaws.{and_true, or_true, some_is_true}
use Rattle.sl_words.specs.Words.{same_truth, some_is}
use Rattle.std.proofs.Common.{ap, arith, inl, inr, refl, subst, suc, sym, zero, ◌∙◌}
use Rattle.std.proofs.lemmas.Bool.{eqb-true, leb-true}
use Rattle.std.specs.Int.{is_in_range}
use Rattle.std.specs.List.{list_any}
use Rattle.std.specs.Option.{option_map_or}
use Rattle.std.specs.Prelude.{Bool, Contains, IsTrue, List, None, Ok, Option, Some, [], bytes_eq, false, is_none, length, nat_le, nat_lt, not, slice_get, true, ℕ, ◌%◌, ◌&&◌, ◌+◌, ◌<◌, ◌==◌, ◌^◌, ◌∷◌, ◌≡◌, ◌≤◌, ◌⊎◌}

-- ---- what a line finds

-- A process that may act is none that is still to be started.
pub born_by : (x : Step) (p : ℕ) → HoldsAt x → may_act (seen x) p ≡ true → p < next_child (seen x)
born_by x p h may = by (or_true (nat_le p most_processes) (is_child (seen x) p) may) where
  child : (o : Option Child) → child_numbered (seen x) p ≡ o → is_child (seen x) p ≡ true → p < next_child (seen x)
  child o at is =
      let v = some_is_true (λ (k : Child). some_is (λ ok. ok) k.answer && not k.exited) (child_numbered (seen x) p) is in
      let f = find_inside (λ (k : Child). k.process == p) (children (seen x)) v.0 v.1 in
      subst (λ n. n < next_child (seen x)) (eqb-true v.0.process p f.1) (h.given v.0 f.0)

  by : (nat_le p most_processes ≡ true) ⊎ (is_child (seen x) p ≡ true) → p < next_child (seen x)
  by (inl low) = (let le : p ≤ most_processes = leb-true p most_processes low in omega (arith, le))
  by (inr is) = child (child_numbered (seen x) p) refl is

named_lockspace : (st : Setting) (es : Trace) (name : List ℕ) (s : Session) → session_named st es name ≡ Some s → name ≡ s.lockspace
named_lockspace st es name s is = sym (text_is s.lockspace name (find_inside (λ (z : Session). bytes_eq z.lockspace name) (present_sessions st es) s is).1)

pub active_joined : (st : Setting) (es : Trace) (s : Session) → is_active st es s ≡ true → is_joined es s ≡ true
active_joined st es s is = (and_true (is_joined es s) (is_none (recovery_of st es s)) (and_true (is_joined es s && is_none (recovery_of st es s)) (is_none (leaving_job st es s)) is).0).0

pub here_held : (x : Step) (at : Spot) (h : Grant) → Contains (holdings (seen x)) h → same_place h.path h.offset at.path at.base ≡ true → Contains (held_here (seen x) at) h
here_held x at h there same = kept (λ (g : Grant). same_place g.path g.offset at.path at.base) (holdings (seen x)) h same there

pub base_of : (st : Setting) (r : ResourceArg) → IsResourceArg st.layout r → r.offset % st.layout.area ≡ 0
base_of st r is = eqb-true (r.offset % st.layout.area) 0 (and_true (r.offset % st.layout.area == 0) (nat_lt r.offset (10 ^ 12)) is.base).0

pub asked_resource : (st : Setting) (c : Command) (r : ResourceArg) → IsCommand st.layout c → AsksLease c r → IsResourceArg st.layout r × (resource_named c ≡ Some r)
asked_resource st c r is (inl a) = ((subst (λ z. IsCommand st.layout z) a.3 is).0, ap (λ z. resource_named z) a.3)
asked_resource st c r is (inr a) = ((subst (λ z. IsCommand st.layout z) a.2 is).0, ap (λ z. resource_named z) a.2)

-- ---- a call, or none

-- The session's number is none of a holder's.
joins_spared : (y : Step) (c : Call) → ((n : ℕ) (s : Session) → session_numbered y.setting (seen y) n ≡ Some s → (c.session == s.number) ≡ true → ⊥) → CallSpares y c
joins_spared y c none =
    record {
      generation = λ g s there its same. absurd (none g.session s its same);
      beside = λ g s there its same exclusive here stands. absurd (none g.session s its same);
    }

inside_less : {A : Type 0} (xs : List A) (k : ℕ) (x : A) → slice_get xs k ≡ Some x → k < length xs
inside_less [] k x at = absurd (none_some x at)
inside_less (y ∷ xs) zero x at = omega arith
inside_less (y ∷ xs) (suc k) x at = (let less : k < length xs = inside_less xs k x at in omega (arith, less))

joins_line : (x : Step) (text : List ℕ) (j n : ℕ) (a : LockspaceArg) → x.effects.calls ≡ [] → n ≡ length (sessions x.setting (seen x)) → HoldsAt (with_input (Line text) x)
    → HoldsAt (add_call_of n a.path (Joining j FirstRead) (delta_offset x.setting.layout a.offset a.id) (ReadSectors 1) (with_input (Line text) x))
joins_line x text j n a bare next h =
    let y : Step = with_input (Line text) x in
    call_held y n a.path (Joining j FirstRead) (delta_offset x.setting.layout a.offset a.id) (ReadSectors 1)
    (joins_spared y (call_added n a.path (Joining j FirstRead) (delta_offset x.setting.layout a.offset a.id) (ReadSectors 1) y)
    (λ k s its same.
    let old : session_numbered x.setting (seen x) k ≡ Some s = sym (sessions_seen_still x (Line text) k bare) ∙ its in
    let less : k < length (sessions x.setting (seen x)) = inside_less (sessions x.setting (seen x)) k s old in
    never k n (length (sessions x.setting (seen x))) less (eqb-true n s.number same ∙ number_is_place x.setting (seen x) k s old) next)) h where
      never : (k n m : ℕ) → k < m → n ≡ k → n ≡ m → ⊥
      never k n m less a b = omega (arith, less, a, b)

-- ---- an acquire

free_exclusive : (x : Step) (at : Spot) (asking : Option ℕ) (shared : Bool) (g : Grant) → IsFreeFor (seen x) at asking shared → Contains (holdings (seen x)) g → spot_of_grant g ≡ at → is_shared g.mode ≡ false → ⊥
free_exclusive x at asking shared g free there spot exclusive =
    not_both (is_shared g.mode) (free g (here_held x at g there (subst (λ (z : Spot). same_place g.path g.offset z.path z.base ≡ true) spot (one_place g.path g.offset)))).0 exclusive

reads_line : (x : Step) (text : List ℕ) (c : Command) (j : ℕ) (s : Session) (r : ResourceArg) → HoldsAt (with_input (Line text) x) → IsSetting x.setting → Has (with_input (Line text) x) s → IsCommand x.setting.layout c
    → AcquireGrounds x.setting (seen x) c s r → HoldsAt (carry_lease s (spot_of r) (ForJob j) (ReadFor (ReadArea r.name)) (with_input (Line text) x))
reads_line x text c j s r h is has command g =
    carried_held (with_input (Line text) x) s (spot_of r) (ForJob j) (ReadFor (ReadArea r.name)) h is has (base_of x.setting r (asked_resource x.setting c r command g.asks).0)
    (λ e there mine exclusive spot stands. absurd (free_exclusive x (spot_of r) (process_named c) (wants_shared c) e g.free there spot exclusive)) tt

shares_line : (x : Step) (text : List ℕ) (c : Command) (j : ℕ) (s : Session) (lver : ℕ) → HoldsAt x → HoldsAt (with_input (Line text) x) → Has (with_input (Line text) x) s → IsCommand x.setting.layout c
    → SharesGrounds x.setting (seen x) c s lver → HoldsAt (grant_for s j c Shared lver (with_input (Line text) x))
shares_line x text c j s lver hx h has command g =
    granted_held (with_input (Line text) x) s j c Shared lver
    (λ r named.
    let r_is : g.resource ≡ r = one_value g.resource r (resource_named c) (asked_resource x.setting c g.resource command g.acquires.asks).1 named in
    record {
      has = has;
      joined = active_joined x.setting (seen x) s g.acquires.ready.active;
      lockspace = subst (λ (z : ResourceArg). z.lockspace ≡ s.lockspace) r_is (named_lockspace x.setting (seen x) g.resource.lockspace s g.acquires.ready.named);
      placed = subst (λ (z : ResourceArg). IsTrue (is_base x.setting.layout z.offset)) r_is (asked_resource x.setting c g.resource command g.acquires.asks).0.base;
      shared = λ e there at. ((g.acquires.free e (here_held x (spot_of g.resource) e there (subst (λ (z : ResourceArg). same_place e.path e.offset z.path z.offset ≡ true) (sym r_is) at))).0, refl);
      stands = λ no_mode. absurd (true_is_false no_mode);
    })
    (λ r p named process.
    let r_is : g.resource ≡ r = one_value g.resource r (resource_named c) (asked_resource x.setting c g.resource command g.acquires.asks).1 named in
    record {
      apart = λ e there at its.
          (g.acquires.free e (here_held x (spot_of g.resource) e there (subst (λ (z : ResourceArg). same_place e.path e.offset z.path z.offset ≡ true) (sym r_is) at))).2 (process ∙ ap (λ n. Some n) (sym its));
      born = lt_then_le p (next_child (seen x)) (next_child (seen (with_input (Line text) x))) (born_by x p hx (g.acquires.acts p process)) (children_seen x (Line text));
    }) h

-- ---- a release

release_ungranting : (k : LeaseKnown) (p : LeasePlace) (mode : Mode) (lver : ℕ) → IsNoGrant (release_next p k mode lver)
release_ungranting k p Exclusive lver = tt
release_ungranting k p Shared lver = by k.own where
  by : (o : Option Block) → IsNoGrant (option_map_or (λ own. WriteBlock ClearMode (moded_block own false 0)) o Nothing)
  by None = tt
  by (Some own) = tt

gives_up_line : (y : Step) (j : ℕ) (s : Session) (g : Grant) → HoldsAt y → IsSetting y.setting → Has y s → IsAligned y (spot_of_grant g) → HoldsAt (after_end s (spot_of_grant g) j g (add_end (end_of g) y))
unfolding after_end
gives_up_line y j s g h is has aligned = by (holdings_on (seen z) s (spot_of_grant g)) refl where
  z : Step
  z = add_end (end_of g) y

  there : HoldsAt z
  there = end_held y (end_of g) h

  by : (hs : List Grant) → holdings_on (seen z) s (spot_of_grant g) ≡ hs
      → HoldsAt (elim hs as (λ v. Step) [
        | e ∷ es ↦ add_reply j Done z
        | [] ↦ carry_lease s (spot_of_grant g) (ForJob j) (next_of_release z.setting (seen z) s (spot_of_grant g) g) z
      ])
  by (e ∷ es) at = reply_held z j Done (later_same z.past (entry_of z) (record { job = j; reply = Done }) refl) there
  by [] at =
      carried_held z s (spot_of_grant g) (ForJob j) (next_of_release z.setting (seen z) s (spot_of_grant g) g) there is has aligned
      (λ e held mine exclusive spot stands.
      absurd (contains_none e (subst (λ gs. Contains gs e) at
      (kept (λ (k : Grant). same_place k.path k.offset g.path g.offset) (holdings_of (seen z) s) e (subst (λ (v : Spot). same_place e.path e.offset v.path v.base ≡ true) spot (one_place e.path e.offset))
      (kept (λ (k : Grant). k.session == s.number) (holdings (seen z)) e (subst (λ n. (e.session == n) ≡ true) mine (number_itself e.session)) held)))))
      (release_is IsNoGrant z.setting (seen z) s (spot_of_grant g) g (λ fits. release_ungranting (known z.setting (seen z) s (spot_of_grant g)) (lease_place z.setting s) g.mode g.lver) (λ paired over writes. refl))

-- ---- a take-over

takes_over_line : (x : Step) (text : List ℕ) (c : Command) (j : ℕ) (s : Session) (g : Grant) → HoldsAt x → HoldsAt (with_input (Line text) x) → Has (with_input (Line text) x) s → x.effects.grants ≡ [] → IsCommand x.setting.layout c
    → TakeOverGrounds x.setting (seen x) c s g → HoldsAt (grant_for s j c g.mode g.lver (add_end (end_of g) (with_input (Line text) x)))
takes_over_line x text c j s g hx h has bare command t =
    granted_held z s j c g.mode g.lver (λ r named. place r (one_value t.resource r (resource_named c) resource named)) (λ r p named process. new r p (one_value t.resource r (resource_named c) resource named) process)
    (end_held y (end_of g) h) where
      y : Step
      y = with_input (Line text) x

      z : Step
      z = add_end (end_of g) y

      resource : resource_named c ≡ Some t.resource
      resource = ap (λ k. resource_named k) t.command

      f : Contains (holdings_on (seen x) s (spot_of t.resource)) g × (is_orphan g ≡ true)
      f = find_inside is_orphan (holdings_on (seen x) s (spot_of t.resource)) g t.orphan

      on : Contains (holdings_of (seen x) s) g × (same_place g.path g.offset t.resource.path t.resource.offset ≡ true)
      on = kept_inside (λ (k : Grant). same_place k.path k.offset t.resource.path t.resource.offset) (holdings_of (seen x) s) g f.0

      of : Contains (holdings (seen x)) g × ((g.session == s.number) ≡ true)
      of = kept_inside (λ (k : Grant). k.session == s.number) (holdings (seen x)) g on.0

      spot : spot_of_grant g ≡ spot_of t.resource
      spot = spot_is g (spot_of t.resource) on.1

      its : session_numbered y.setting (seen y) g.session ≡ Some s
      its = subst (λ n. session_numbered y.setting (seen y) n ≡ Some s) (sym (eqb-true g.session s.number of.1)) has

      args : IsResourceArg x.setting.layout t.resource × IsTrue (is_in_range 1 (most_processes + most_children) t.process)
      args = subst (λ k. IsCommand x.setting.layout k) t.command command

      -- what is left there is shared, as it is itself
      left : (e : Grant) → Contains (holdings (seen z)) e → same_place e.path e.offset t.resource.path t.resource.offset ≡ true → (is_shared e.mode ≡ true) × (is_shared g.mode ≡ true)
      left e there at = (shared_by e (λ exclusive. other (sym (hx.alone e g was of.0 (place_turned e.path g.path e.offset g.offset same) exclusive))), shared_by g (λ exclusive. other (hx.alone g e of.0 was same exclusive))) where
        was : Contains (holdings (seen x)) e
        was = end_inside y.past (entry_of y) (end_of g) e there

        same : same_place e.path e.offset g.path g.offset ≡ true
        same = subst (λ (v : Spot). same_place e.path e.offset v.path v.base ≡ true) (sym spot) at

        other : e ≡ g → ⊥
        other is = not_both (is_ended_by (end_of g ∷ []) e) (subst (λ k. is_ended_by (end_of g ∷ []) k ≡ true) (sym is) (ends_itself g)) (not_ended y.past (entry_of y) (end_of g) e bare there)

        shared_by : (k : Grant) → (is_shared k.mode ≡ false → ⊥) → is_shared k.mode ≡ true
        shared_by k never = by (is_shared k.mode) refl where
          by : (b : Bool) → is_shared k.mode ≡ b → is_shared k.mode ≡ true
          by true is = is
          by false is = absurd (never is)

      place : (r : ResourceArg) → t.resource ≡ r → PlaceFor z s r g.mode g.lver
      place r is =
          record {
            has = has;
            joined = active_joined x.setting (seen x) s t.ready.active;
            lockspace = subst (λ (v : ResourceArg). v.lockspace ≡ s.lockspace) is (named_lockspace x.setting (seen x) t.resource.lockspace s t.ready.named);
            placed = subst (λ (v : ResourceArg). IsTrue (is_base x.setting.layout v.offset)) is args.0.base;
            shared = λ e there at. left e there (subst (λ (v : ResourceArg). same_place e.path e.offset v.path v.offset ≡ true) (sym is) at);
            stands = λ exclusive.
                subst (λ v. StandsExclusive z.setting (seen z) (heard_by z.input) s v g.lver) (spot ∙ ap (λ v. spot_of v) is)
                (stands_same y.setting (seen y) (seen z) (heard_by y.input) (heard_by z.input) s (spot_of_grant g) g.lver refl refl (λ i n is. is) (λ m inside opens. opens) (h.stands g s of.0 its exclusive));
          }

      new : (r : ResourceArg) (p : ℕ) → t.resource ≡ r → process_named c ≡ Some p → IsNewThere z r p
      new r p is process =
          let same : t.process ≡ p = some_value t.process p (ap (λ k. process_named k) (sym t.command) ∙ process) in
          record {
            apart = λ e there at of_p.
                let was : Contains (holdings (seen x)) e = end_inside y.past (entry_of y) (end_of g) e there in
                not_both (list_any (λ (k : Grant). k.process == t.process) (held_here (seen x) (spot_of t.resource)))
                (any_of (λ (k : Grant). k.process == t.process) (held_here (seen x) (spot_of t.resource)) e (subst (λ n. (e.process == n) ≡ true) (of_p ∙ sym same) (number_itself e.process))
                (here_held x (spot_of t.resource) e was (subst (λ (v : ResourceArg). same_place e.path e.offset v.path v.offset ≡ true) (sym is) at)))
                (choose_none (list_any (λ (k : Grant). k.process == t.process) (held_here (seen x) (spot_of t.resource))) t.process t.none_yet);
            born = lt_then_le p (next_child (seen x)) (next_child (seen y)) (subst (λ n. n < next_child (seen x)) same (born_by x t.process hx t.acts)) (children_seen x (Line text));
          }

-- ---- a conversion

known_as : (z : Step) (s : Session) (at : Spot) (own : Block) → block_submitted (lease_calls z.setting (seen z) s at) ≡ Some own → (known z.setting (seen z) s at).own ≡ Some own
unfolding known
known_as z s at own is = is

converts_line : (x : Step) (text : List ℕ) (c : Command) (j : ℕ) (s : Session) (r : ResourceArg) (mode : Mode) → HoldsAt x → HoldsAt (with_input (Line text) x) → IsSetting x.setting → Has (with_input (Line text) x) s
    → IsCommand x.setting.layout c → ConvertGrounds x.setting (seen x) c s r mode
    → HoldsAt (carry_lease s (spot_of r) (ForJob j) (next_of_conversion x.setting (seen (with_input (Line text) x)) s (spot_of r) mode r.name) (with_input (Line text) x))
converts_line x text c j s r mode hx h is has command g = carried_held y s (spot_of r) (ForJob j) (next_of_conversion y.setting (seen y) s (spot_of r) mode r.name) h is has aligned
    (λ e there mine exclusive spot stands.
    conversion_is (λ n. DoesBeside stands.own e.lver n) y.setting (seen y) s (spot_of r) mode r.name (λ fits. beside mode refl e there mine exclusive spot stands) (λ paired over writes. tt))
    (conversion_is IsNoGrant y.setting (seen y) s (spot_of r) mode r.name (λ fits. plain mode) (λ paired over writes. refl)) where
      y : Step
      y = with_input (Line text) x

      args : IsResourceArg x.setting.layout r × IsTrue (is_in_range 1 (most_processes + most_children) g.process)
      args = subst (λ k. IsCommand x.setting.layout k) g.command command

      aligned : IsAligned y (spot_of r)
      aligned = base_of x.setting r args.0

      plain : (m : Mode) → IsNoGrant (convert_next (known y.setting (seen y) s (spot_of r)) m r.name)
      plain Exclusive = tt
      plain Shared = by (known y.setting (seen y) s (spot_of r)).own where
        by : (o : Option Block) → IsNoGrant (option_map_or (λ own. WriteBlock SetMode (moded_block own true (known y.setting (seen y) s (spot_of r)).self.generation)) o Nothing)
        by None = tt
        by (Some own) = tt

      moded : (own : Block) (n : ℕ) (o : Option Block) → o ≡ Some own → own.lver ≡ n → DoesBeside own n (option_map_or (λ k. WriteBlock SetMode (moded_block k true (known y.setting (seen y) s (spot_of r)).self.generation)) o Nothing)
      moded own n None at under = tt
      moded own n (Some k) at under = (let same : k ≡ own = some_value k own at in (refl, ap (λ (z : Block). z.lver) same ∙ under, ap (λ (z : Block). z.mbal) same))

      -- the process's own holding, which is shared, is the only one there
      f : Contains (holdings_on (seen x) s (spot_of r)) g.holding × ((g.holding.process == g.process && true) ≡ true)
      f = find_inside (λ (k : Grant). k.process == g.process && true) (holdings_on (seen x) s (spot_of r)) g.holding g.held

      none_exclusive : is_shared mode ≡ false → (e : Grant) → Contains (holdings (seen x)) e → is_shared e.mode ≡ false → spot_of_grant e ≡ spot_of r → ⊥
      none_exclusive to_exclusive e there exclusive spot =
          let on = kept_inside (λ (k : Grant). same_place k.path k.offset r.path r.offset) (holdings_of (seen x) s) g.holding f.0 in
          let of = kept_inside (λ (k : Grant). k.session == s.number) (holdings (seen x)) g.holding on.0 in
          let same : g.holding ≡ e = hx.alone e g.holding there of.0 (subst (λ (v : Spot). same_place g.holding.path g.holding.offset v.path v.base ≡ true) (sym spot) on.1) exclusive in
          true_is_false (sym (ap (λ b. same_truth b (is_shared g.holding.mode)) to_exclusive ∙ ap (λ b. same_truth false b) (ap (λ (k : Grant). is_shared k.mode) same ∙ exclusive)) ∙ g.other)

      beside : (m : Mode) → mode ≡ m → OfExclusive y s (spot_of r) (λ own n. DoesBeside own n (convert_next (known y.setting (seen y) s (spot_of r)) m r.name))
      beside Shared at e there mine exclusive spot stands =
          moded stands.own e.lver (known y.setting (seen y) s (spot_of r)).own
          (known_as y s (spot_of r) stands.own (subst (λ z. block_submitted (lease_calls y.setting (seen y) s z) ≡ Some stands.own) spot stands.known)) stands.under.0
      beside Exclusive at e there mine exclusive spot stands = absurd (none_exclusive (ap (λ m. is_shared m) at) e there exclusive spot)

-- ---- all decisions

pub no_told : (past : Trace) (text : List ℕ) → AnswersNoJob past (Line text)
no_told past text n w m is there same = absurd (true_is_false (ap (λ i. is_no_answer i) is))

pub lines_held : (x : Step) (text : List ℕ) (c : Command) (j : ℕ) (d : Decision) → HoldsAt x → IsSetting x.setting → x.input ≡ Wake → x.effects.calls ≡ [] → x.effects.grants ≡ [] → x.setting.read text ≡ Ok c
    → decided x.setting (seen x) x.reading c ≡ d → HoldsAt (carry_decision j c d (with_input (Line text) x))
unfolding carry_decision carry_lease
lines_held x text c j d hx is wake bare ungranted says at =
    by d (subst (λ z. HasGrounds x.setting (seen x) c z) at (decisions_have_grounds x.setting (seen x) x.reading c)) (subst (λ z. IsDecidedFor x.setting (seen x) c z) at (decisions_are_theirs x.setting (seen x) x.reading c))
    (subst (λ z. Of (Has y) z) at (line_has x text c bare)) where
      y : Step
      y = with_input (Line text) x

      h : HoldsAt y
      h = input_held x (Line text) wake bare refl hx

      command : IsCommand x.setting.layout c
      command = is.reads text c says

      by : (d : Decision) → HasGrounds x.setting (seen x) c d → IsDecidedFor x.setting (seen x) c d → Of (Has y) d → HoldsAt (carry_decision j c d y)
      by (Replies r) g theirs has = h
      by (Joins n a) g theirs has = joins_line x text j n a bare theirs.1 h
      by (Leaves s) g theirs has = stopped_held y s (Some j) (no_told x.past text) h
      by (ReadsArea s r) g theirs has = reads_line x text c j s r h is has command g.acquires
      by (Shares s lver) g theirs has = shares_line x text c j s lver hx h has command g
      by (GivesUp s k) g theirs has =
          let on = kept_inside (λ (e : Grant). same_place e.path e.offset g.resource.path g.resource.offset) (holdings_of (seen x) s) k g.held in
          let of = kept_inside (λ (e : Grant). e.session == s.number) (holdings (seen x)) k on.0 in
          gives_up_line y j s k h is has (base_aligned y k (hx.owned k of.0).4)
      by (TakesOver s k) g theirs has = takes_over_line x text c j s k hx h has ungranted command g
      by (ConvertsTo s r mode) g theirs has = converts_line x text c j s r mode hx h is has command g
      by (Requests s r) g theirs has =
          call_held y s.number r.path (RequestRead j) r.offset (ReadSectors 2) (plain_spared y (call_added s.number r.path (RequestRead j) r.offset (ReadSectors 2) y) refl refl) h
      by (SetsValue s spot v) g theirs has =
          call_held y s.number spot.path (ValueWrite j) (value_offset x.setting.layout spot.base) (WriteRecord (ValueIs v))
          (plain_spared y (call_added s.number spot.path (ValueWrite j) (value_offset x.setting.layout spot.base) (WriteRecord (ValueIs v)) y) refl refl) h
      by (GetsValue s spot) g theirs has =
          call_held y s.number spot.path (ValueRead j) (value_offset x.setting.layout spot.base) (ReadSectors 1)
          (plain_spared y (call_added s.number spot.path (ValueRead j) (value_offset x.setting.layout spot.base) (ReadSectors 1) y) refl refl) h
