-- A conversion keeps the facts of holdings: what ends and what begins are one process's, at one place.
use Rattle.sl_due_facts.specs.Acts.Acts.{Has}
use Rattle.sl_due_facts.specs.Acts.TraceSoFar.{entry_of}
use Rattle.sl_due.specs.CarriedLease.{carry_lease, convert_for, convert_holding, for_work, held_otherwise, with_command}
use Rattle.sl_due.specs.Steps.{Step, add_end, add_grant, seen, with_some}
use Rattle.sl_due_leases.proofs.Holdings.HoldingsByEffects.{HoldsAt, end_held, end_inside, later_same, reply_held}
use Rattle.sl_due_leases.proofs.Holdings.HoldingsByExits.{not_ended}
use Rattle.sl_due_leases.proofs.Holdings.HoldingsByGrants.{grant_held, old_or_granted}
use Rattle.sl_due_leases.proofs.Holdings.HoldingsByLeases.{IsAligned, carried_held}
use Rattle.sl_due_leases.proofs.Holdings.PlainPlaces.{one_place, place_is, place_turned}
use Rattle.sl_due_leases.proofs.Holdings.StandsGrow.{stands_same}
use Rattle.sl_run.specs.Lawful.{IsSetting}
use Rattle.sl_trace.specs.Ballots.{moded_block}
use Rattle.sl_trace.specs.Jobs.{command_numbered, process_named}
use Rattle.sl_trace.specs.Leases.{block_submitted, exclusive_on, holdings_on, is_lease_call, is_on, lease_calls}
use Rattle.sl_trace.specs.declared.lease.LeaseNext.TheVariants.{BecomeExclusive, BecomeShared, WriteBlock, WriteLeader}
use Rattle.sl_words.proofs.Lists.{find_fails, find_inside, kept_inside}
use Rattle.sl_words.proofs.Numbers.{number_itself}
use Rattle.sl_sector.specs.declared.sector.Block.{Block}
use Rattle.sl_sector.specs.declared.sector.Leader.{Leader}
use Rattle.sl_trace.specs.Sessions.{holdings_of, is_call_of, is_joined, session_numbered}
use Rattle.sl_trace.specs.declared.session.Session.{Session}
use Rattle.sl_due_facts.specs.Facts.HeardCall.{heard_by}
use Rattle.sl_due_facts.specs.Facts.HoldingFacts.{StandsExclusive}
use Rattle.sl_trace.specs.Traces.{end_of, holdings, is_ended_by, is_shared, same_place, spot_of_grant, submitted}
use Rattle.sl_trace.specs.declared.command.Command.{Command}
use Rattle.sl_trace.specs.declared.effects.Grant.{Grant}
use Rattle.sl_trace.specs.declared.effects.LeaseStep.TheVariants.{ClearMode, FreeLeader}
use Rattle.sl_trace.specs.declared.effects.Mode.TheVariants.{Exclusive, Shared}
use Rattle.sl_trace.specs.declared.effects.Mode.{Mode}
use Rattle.sl_trace.specs.declared.effects.Spot.{Spot}
use Rattle.sl_trace.specs.declared.effects.Work.TheVariants.{ForJob, Settling}
use Rattle.sl_trace.specs.declared.reply.Reply.TheVariants.{Granted}
use Rattle.sl_words.proofs.CaseLaws.{false_is_true, not_both, one_value, true_is_false}
use Rattle.sl_words.proofs.WordLaws.{and_true}
use Rattle.sl_words.specs.Words.{same_truth}
use Rattle.std.proofs.Common.{ap, inl, inr, refl, subst, sym, ◌∙◌}
use Rattle.std.proofs.lemmas.Bool.{eqb-true}
use Rattle.std.specs.Prelude.{Bool, Contains, List, None, Option, Some, [], false, filter, not, true, ℕ, ◌&&◌, ◌==◌, ◌||◌, ◌∷◌, ◌≡◌, ◌⊎◌}

-- ---- one holding

-- The holding in its new mode.
abbrev pub converted : Grant → Mode → ℕ → Grant
converted g mode lver = record g { mode = mode; lver = lver }

-- Each holding at the place is of one process.
abbrev pub OfOneProcess : Step → Grant → Type 0
OfOneProcess x g = (h : Grant) → Contains (holdings (seen x)) h → same_place h.path h.offset g.path g.offset ≡ true → h.process ≡ g.process

ended_there : (g h : Grant) → same_place h.path h.offset g.path g.offset ≡ true → h.process ≡ g.process → is_ended_by (end_of g ∷ []) h ≡ true
ended_there g h same its =
    ap (λ b. b || false) (ap (λ b. b && same_place g.path g.offset h.path h.offset) (subst (λ n. (g.process == n) ≡ true) (sym its) (number_itself g.process)) ∙ place_turned h.path g.path h.offset g.offset same)

-- So nothing is left there when it has ended.
pub nothing_left : (x : Step) (g h : Grant) → x.effects.grants ≡ [] → OfOneProcess x g → Contains (holdings (seen (add_end (end_of g) x))) h → same_place h.path h.offset g.path g.offset ≡ true → ⊥
nothing_left x g h bare one there same =
    let was = end_inside x.past (entry_of x) (end_of g) h there in
    not_both (is_ended_by (end_of g ∷ []) h) (ended_there g h same (one h was same)) (not_ended x.past (entry_of x) (end_of g) h bare there)

pub converted_held : (x : Step) (j : ℕ) (g : Grant) (s : Session) (mode : Mode) (lver : ℕ) → HoldsAt x → Contains (holdings (seen x)) g → session_numbered x.setting (seen x) g.session ≡ Some s → x.effects.grants ≡ []
    → OfOneProcess x g → (is_shared mode ≡ false → StandsExclusive x.setting (seen x) (heard_by x.input) s (spot_of_grant g) lver) → HoldsAt (convert_holding j mode lver g x)
converted_held x j g s mode lver h there its bare one stands =
    let y : Step = add_end (end_of g) x in
    let z : Step = add_grant (converted g mode lver) y in
    let o = h.owned g there in
    let same : o.0 ≡ s = one_value o.0 s (session_numbered x.setting (seen x) g.session) o.1 its in
    reply_held z j (Granted lver) (later_same z.past (entry_of z) (record { job = j; reply = Granted lver }) refl)
    (grant_held y (converted g mode lver) (record {
      session = s;
      its = its;
      joined = subst (λ k. is_joined (seen x) k ≡ true) same o.2;
      lockspace = subst (λ (k : Session). g.lockspace ≡ k.lockspace) same o.3;
      placed = o.4;
      alone = λ e held at. absurd (nothing_left x g e bare one held at);
      born = h.born g there;
      stands = λ exclusive.
          stands_same x.setting (seen x) (seen y) (heard_by x.input) (heard_by x.input) s (spot_of_grant g) lver refl refl (λ i n is. is) (λ m inside opens. opens) (stands exclusive);
    }) (end_held x (end_of g) h))

-- What the session holds exclusively there afterwards is what began.
pub only_converted : (x : Step) (j : ℕ) (g : Grant) (mode : Mode) (lver : ℕ) (e : Grant) → x.effects.grants ≡ [] → OfOneProcess x g → Contains (holdings (seen (convert_holding j mode lver g x))) e
    → spot_of_grant e ≡ spot_of_grant g → converted g mode lver ≡ e
only_converted x j g mode lver e bare one there spot = by (old_or_granted (add_end (end_of g) x) (converted g mode lver) e there) where
  by : Contains (holdings (seen (add_end (end_of g) x))) e ⊎ (converted g mode lver ≡ e) → converted g mode lver ≡ e
  by (inr new) = new
  by (inl old) =
      absurd (nothing_left x g e bare one old (subst (λ (z : Spot). same_place z.path z.base g.path g.offset ≡ true) (sym spot) (one_place g.path g.offset)))

-- ---- a job's

-- The job's holding in the other mode.
pub otherwise : (x : Step) (s : Session) (at : Spot) (p : ℕ) (mode : Mode) (g : Grant) → held_otherwise (seen x) s at p mode ≡ Some g
    → Contains (holdings (seen x)) g × (g.session ≡ s.number) × (same_place g.path g.offset at.path at.base ≡ true) × (g.process ≡ p) × (same_truth (is_shared g.mode) (is_shared mode) ≡ false)
otherwise x s at p mode g is =
    let f = find_inside (λ (k : Grant). k.process == p && not (same_truth (is_shared k.mode) (is_shared mode))) (holdings_on (seen x) s at) g is in
    let on = kept_inside (λ (k : Grant). same_place k.path k.offset at.path at.base) (holdings_of (seen x) s) g f.0 in
    let of = kept_inside (λ (k : Grant). k.session == s.number) (holdings (seen x)) g on.0 in
    let v = and_true (g.process == p) (not (same_truth (is_shared g.mode) (is_shared mode))) f.1 in
    (of.0, eqb-true g.session s.number of.1, on.1, eqb-true g.process p v.0, is_not (same_truth (is_shared g.mode) (is_shared mode)) v.1) where
      is_not : (b : Bool) → not b ≡ true → b ≡ false
      is_not false h = refl
      is_not true h = absurd (false_is_true h)

pub spot_is : (g : Grant) (at : Spot) → same_place g.path g.offset at.path at.base ≡ true → spot_of_grant g ≡ at
spot_is g at same = let p = place_is g.path at.path g.offset at.base same in ap (λ z. spot z g.offset) p.0 ∙ ap (λ n. spot at.path n) p.1 where
  spot : List ℕ → ℕ → Spot
  spot path base = record { path = path; base = base }

-- What the conversion leaves, where the job's command is known, and where its process's holding is, or isn't, found.
abbrev pub after_converting : Step → Session → Spot → ℕ → Mode → ℕ → Step
after_converting x s at j mode lver = for_work (ForJob j) (λ k. with_command k (λ c. convert_for s at k c mode lver)) x

pub by_found : (Q : Step → Type 0) (x : Step) (s : Session) (at : Spot) (j : ℕ) (c : Command) (p : ℕ) (mode : Mode) (lver : ℕ) → command_numbered x.setting (seen x) j ≡ Some c → process_named c ≡ Some p
    → (o : Option Grant) → held_otherwise (seen x) s at p mode ≡ o → Q (with_some o (convert_holding j mode lver) x) → Q (after_converting x s at j mode lver)
by_found Q x s at j c p mode lver command named o found h =
    subst (λ k. Q (with_some k (λ d. convert_for s at j d mode lver) x)) (sym command)
    (subst (λ k. Q (with_some k (λ q y. with_some (held_otherwise (seen y) s at q mode) (convert_holding j mode lver) y) x)) (sym named)
    (subst (λ k. Q (with_some k (convert_holding j mode lver) x)) (sym found) h))

-- ---- to shared

pub become_shared_held : (x : Step) (s : Session) (at : Spot) (j : ℕ) (c : Command) (l : Leader) (lver : ℕ) (g : Grant) → HoldsAt x → IsSetting x.setting → Has x s → IsAligned x at → x.effects.grants ≡ []
    → command_numbered x.setting (seen x) j ≡ Some c → process_named c ≡ Some g.process → exclusive_on (seen x) s at ≡ Some g → HoldsAt (carry_lease s at (ForJob j) (BecomeShared lver l) x)
unfolding carry_lease
become_shared_held x s at j c l lver g h is has aligned bare command named held =
    by_found (λ z. HoldsAt (carry_lease s at Settling (WriteLeader FreeLeader l) z)) x s at j c g.process Shared lver command named (held_otherwise (seen x) s at g.process Shared) refl
    (found (held_otherwise (seen x) s at g.process Shared) refl) where
      f : Contains (holdings_on (seen x) s at) g × (not (is_shared g.mode) ≡ true)
      f = find_inside (λ (k : Grant). not (is_shared k.mode)) (holdings_on (seen x) s at) g held

      is_not : (b : Bool) → not b ≡ true → b ≡ false
      is_not false h = refl
      is_not true h = absurd (false_is_true h)

      exclusive : is_shared g.mode ≡ false
      exclusive = is_not (is_shared g.mode) f.1

      on : Contains (holdings_of (seen x) s) g × (same_place g.path g.offset at.path at.base ≡ true)
      on = kept_inside (λ (k : Grant). same_place k.path k.offset at.path at.base) (holdings_of (seen x) s) g f.0

      of : Contains (holdings (seen x)) g × ((g.session == s.number) ≡ true)
      of = kept_inside (λ (k : Grant). k.session == s.number) (holdings (seen x)) g on.0

      spot : spot_of_grant g ≡ at
      spot = spot_is g at on.1

      -- being exclusive it is alone there
      same_one : (k : Grant) → Contains (holdings (seen x)) k → same_place k.path k.offset at.path at.base ≡ true → k ≡ g
      same_one k there same = h.alone g k of.0 there (subst (λ (z : Spot). same_place k.path k.offset z.path z.base ≡ true) (sym spot) same) exclusive

      found : (o : Option Grant) → held_otherwise (seen x) s at g.process Shared ≡ o → HoldsAt (carry_lease s at Settling (WriteLeader FreeLeader l) (with_some o (convert_holding j Shared lver) x))
      found None none =
          absurd (not_both (g.process == g.process && not (same_truth (is_shared g.mode) true))
          (ap (λ b. b && not (same_truth (is_shared g.mode) true)) (number_itself g.process) ∙ ap (λ b. not (same_truth b true)) exclusive)
          (find_fails (λ (k : Grant). k.process == g.process && not (same_truth (is_shared k.mode) true)) (holdings_on (seen x) s at) g none f.0))
      found (Some k) its =
          let w = otherwise x s at g.process Shared k its in
          let one : OfOneProcess x k = λ e there same. ap (λ (z : Grant). z.process) (same_one e there (subst (λ (z : Spot). same_place e.path e.offset z.path z.base ≡ true) (spot_is k at w.2) same)) ∙ sym w.3 in
          let z : Step = convert_holding j Shared lver k x in
          carried_held z s at Settling (WriteLeader FreeLeader l)
          (converted_held x j k s Shared lver h w.0 (subst (λ n. session_numbered x.setting (seen x) n ≡ Some s) (sym w.1) has) bare one (λ no_mode. absurd (true_is_false no_mode)))
          is has aligned
          (λ e there mine other at_e stands.
          absurd (not_both (is_shared e.mode) (ap (λ (v : Grant). is_shared v.mode) (sym (only_converted x j k Shared lver e bare one there (at_e ∙ sym (spot_is k at w.2))))) other)) tt

-- ---- to exclusive

pub become_exclusive_held : (x : Step) (s : Session) (at : Spot) (j : ℕ) (c : Command) (p : ℕ) (b own : Block) (lver : ℕ) → HoldsAt x → IsSetting x.setting → Has x s → IsAligned x at → x.effects.grants ≡ []
    → command_numbered x.setting (seen x) j ≡ Some c → process_named c ≡ Some p
    → ((h : Grant) → Contains (holdings (seen x)) h → same_place h.path h.offset at.path at.base ≡ true → (h.process ≡ p) × (is_shared h.mode ≡ true))
    → StandsExclusive x.setting (seen x) (heard_by x.input) s at lver → block_submitted (lease_calls x.setting (seen x) s at) ≡ Some own → b ≡ moded_block own false 0
    → HoldsAt (carry_lease s at (ForJob j) (BecomeExclusive lver b) x)
unfolding carry_lease
become_exclusive_held x s at j c p b own lver h is has aligned bare command named beside stands known written =
    by_found (λ z. HoldsAt (carry_lease s at Settling (WriteBlock ClearMode b) z)) x s at j c p Exclusive lver command named (held_otherwise (seen x) s at p Exclusive) refl
    (found (held_otherwise (seen x) s at p Exclusive) refl) where
      here : (e : Grant) → spot_of_grant e ≡ at → same_place e.path e.offset at.path at.base ≡ true
      here e spot = subst (λ (z : Spot). same_place e.path e.offset z.path z.base ≡ true) spot (one_place e.path e.offset)

      found : (o : Option Grant) → held_otherwise (seen x) s at p Exclusive ≡ o → HoldsAt (carry_lease s at Settling (WriteBlock ClearMode b) (with_some o (convert_holding j Exclusive lver) x))
      found None none =
          carried_held x s at Settling (WriteBlock ClearMode b) h is has aligned
          (λ e there mine exclusive at_e other. absurd (not_both (is_shared e.mode) (beside e there (here e at_e)).1 exclusive)) tt
      found (Some k) its =
          let w = otherwise x s at p Exclusive k its in
          let z : Step = convert_holding j Exclusive lver k x in
          let one : OfOneProcess x k = λ e there same. (beside e there (subst (λ (v : Spot). same_place e.path e.offset v.path v.base ≡ true) (spot_is k at w.2) same)).0 ∙ sym w.3 in
          let y : Step = add_grant (converted k Exclusive lver) (add_end (end_of k) x) in
          let same : submitted (seen z) ≡ submitted (seen x) = later_same y.past (entry_of y) (record { job = j; reply = Granted lver }) refl in
          carried_held z s at Settling (WriteBlock ClearMode b)
          (converted_held x j k s Exclusive lver h w.0 (subst (λ n. session_numbered x.setting (seen x) n ≡ Some s) (sym w.1) has) bare one
          (λ no_mode. subst (λ v. StandsExclusive x.setting (seen x) (heard_by x.input) s v lver) (sym (spot_is k at w.2)) stands))
          is has aligned
          (λ e there mine exclusive at_e other.
          let last : block_submitted (lease_calls x.setting (seen z) s (spot_of_grant e)) ≡ Some own =
          ap (λ ms. block_submitted (filter (λ m. is_lease_call m && is_on x.setting.layout (spot_of_grant e) m.call) (filter (is_call_of s) ms))) same
          ∙ (ap (λ v. block_submitted (lease_calls x.setting (seen x) s v)) at_e ∙ known) in
          let is_own : own ≡ other.own = one_value own other.own (block_submitted (lease_calls x.setting (seen z) s (spot_of_grant e))) last other.known in (
            refl,
            ap (λ (v : Block). v.lver) written ∙ (ap (λ (v : Block). v.lver) is_own ∙ other.under.0),
            ap (λ (v : Block). v.mbal) written ∙ ap (λ (v : Block). v.mbal) is_own,
          )) tt
