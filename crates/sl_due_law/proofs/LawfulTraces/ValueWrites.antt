-- A value that a command sets is a record.
use Rattle.sl_due.specs.DueCommands.{decided, holding_of, pending_refusal, process_refusal, session_refusal, setting_value, unless_refused, with_session}
use Rattle.sl_due.specs.Steps.{Step, seen}
use Rattle.sl_due.specs.declared.decision.Decision.TheVariants.{Replies, SetsValue}
use Rattle.sl_due.specs.declared.decision.Decision.{Decision}
use Rattle.sl_due_law.proofs.LawfulTraces.OwnRecords.{fits_it, session_id}
use Rattle.sl_due_facts.proofs.Jobs.DecisionsFit.{DecisionFits, decisions_fit}
use Rattle.sl_due_facts.proofs.Jobs.SessionsArePresent.{present_is}
use Rattle.sl_trace.specs.Counts.{next_value_seq}
use Rattle.sl_trace.specs.Leases.{block_of_record, block_submitted, block_written, holdings_on, is_lease_call, is_on, lease_calls, spot_of}
use Rattle.sl_words.proofs.Lists.{contains_first, contains_more, find_inside, kept_inside}
use Rattle.sl_words.proofs.Options.{then_value}
use Rattle.sl_sector.specs.Records.{Fits, IsBlock, IsRecord, IsValue}
use Rattle.sl_sector.specs.declared.sector.Block.{Block}
use Rattle.sl_sector.specs.declared.sector.Rec.TheVariants.{BlockIs, DeltaIs, LeaderIs, PairIs, PairLeaderIs, RequestIs, ValueIs}
use Rattle.sl_sector.specs.declared.sector.Rec.{Rec}
use Rattle.sl_sector.specs.declared.sector.ValueRec.{ValueRec}
use Rattle.sl_due_facts.proofs.Sessions.JoinedNumbers.{spelled_of}
use Rattle.sl_trace.specs.Sessions.{calls_of, holdings_of, is_call_of, present_sessions, session_named, sessions}
use Rattle.sl_trace.specs.declared.session.Session.{Session}
use Rattle.sl_due_facts.specs.Facts.AllFacts.{Whole}
use Rattle.sl_trace.specs.CommandForms.{IsCommand, IsValueArg}
use Rattle.sl_trace.specs.Traces.{Submitted, holdings, is_shared, record_of, same_place, spot_of_grant, submitted}
use Rattle.sl_trace.specs.declared.command.Command.TheVariants.{SetLvb}
use Rattle.sl_trace.specs.declared.command.Command.{Command}
use Rattle.sl_trace.specs.declared.command.ResourceArg.{ResourceArg}
use Rattle.sl_trace.specs.declared.effects.Grant.{Grant}
use Rattle.sl_trace.specs.declared.effects.Spot.{Spot}
use Rattle.sl_trace.specs.declared.reply.Limited.TheVariants.{Seq as SeqLimit}
use Rattle.sl_trace.specs.declared.reply.Reply.TheVariants.{Limit as LimitReached, NotHeld}
use Rattle.sl_trace.specs.declared.reply.Reply.{Reply}
use Rattle.sl_words.proofs.CaseLaws.{none_some, some_value}
use Rattle.sl_words.proofs.WordLaws.{and_true}
use Rattle.sl_words.specs.Bounds.{is_number}
use Rattle.sl_words.specs.Words.{choose}
use Rattle.std.proofs.Common.{ap, arith, refl, subst, sym, ◌∙◌}
use Rattle.std.proofs.lemmas.Bool.Decides.{nat_tests}
use Rattle.std.specs.Int.{is_in_range}
use Rattle.std.specs.Option.{option_map_or}
use Rattle.std.specs.Prelude.{Bool, Contains, IsTrue, List, None, Option, Some, [], bytes_eq, false, is_none, length, not, true, ℕ, ◌&&◌, ◌==◌, ◌∷◌, ◌≡◌, ◌≤◌}

-- ---- the lver of an exclusive holding

block_in_record : (r : Rec) (b : Block) → block_of_record r ≡ Some b → IsRecord r → IsBlock b
block_in_record (BlockIs e) b is good = subst IsBlock (some_value e b is) good
block_in_record (PairIs p) b is good = subst IsBlock (some_value p.block b is) good.block
block_in_record (DeltaIs d) b is good = absurd (none_some b is)
block_in_record (LeaderIs l) b is good = absurd (none_some b is)
block_in_record (PairLeaderIs l) b is good = absurd (none_some b is)
block_in_record (RequestIs q) b is good = absurd (none_some b is)
block_in_record (ValueIs v) b is good = absurd (none_some b is)

-- The block that was submitted last was written by one of the calls.
pub submitted_by : (ms : List Submitted) (b : Block) → block_submitted ms ≡ Some b → (m : Submitted) × Contains ms m × (block_written m ≡ Some b)
submitted_by [] b is = absurd (none_some b is)
submitted_by (m ∷ ms) b is = by (block_written m) refl is (λ h. submitted_by ms b h) where
  by : (o : Option Block) → block_written m ≡ o → (elim o as (λ z. Option Block) [ Some k ↦ Some k | None ↦ block_submitted ms ]) ≡ Some b
      → (block_submitted ms ≡ Some b → (n : Submitted) × Contains ms n × (block_written n ≡ Some b)) → (n : Submitted) × Contains (m ∷ ms) n × (block_written n ≡ Some b)
  by (Some k) at h more = (m, contains_first m ms, at ∙ h)
  by None at h more = let n = more h in (n.0, contains_more m ms n.0 n.1, n.2)

-- It is a record.
pub own_is_record : (x : Step) (s : Session) (at : Spot) (b : Block) → Whole x → block_submitted (lease_calls x.setting (seen x) s at) ≡ Some b → IsBlock b
own_is_record x s at b w is =
    let m = submitted_by (lease_calls x.setting (seen x) s at) b is in
    let lease = kept_inside (λ (z : Submitted). is_lease_call z && is_on x.setting.layout at z.call) (calls_of (seen x) s) m.0 m.1 in
    let mine = kept_inside (is_call_of s) (submitted (seen x)) m.0 lease.0 in
    let wrote = then_value block_of_record (record_of m.0.call.op) b m.2 in
    block_in_record wrote.0 b wrote.2 (spelled_of x.setting (seen x) m.0 wrote.0 w.orderly mine.0 wrote.1)

-- So the instance of an exclusive holding fits.
pub held_lver : (x : Step) (g : Grant) → Whole x → Contains (holdings (seen x)) g → is_shared g.mode ≡ false → Fits g.lver
held_lver x g w there alone =
    let z = w.facts.holdings.owned g there in
    let stands = w.facts.holdings.stands g z.0 there z.1 alone in
    let own : IsBlock stands.own = own_is_record x z.0 (spot_of_grant g) stands.own w stands.known in
    subst (λ n. Fits n) stands.under.0 own.lver

-- ---- a value that is set

abbrev ValueWell : Decision → Type 0
ValueWell (SetsValue s at v) = IsValue v
ValueWell d = Unit {0}

in_session : (o : Option Session) (f : Session → Decision) → ((s : Session) → o ≡ Some s → ValueWell (f s)) → ValueWell (with_session o f)
in_session None f h = tt
in_session (Some s) f h = h s refl

unless : (rs : List (Option Reply)) (d : Decision) → ValueWell d → ValueWell (unless_refused rs d)
unless [] d h = h
unless (None ∷ rs) d h = unless rs d h
unless (Some why ∷ rs) d h = tt

where_held : (o : Option Grant) (f : Grant → Decision) → ((g : Grant) → o ≡ Some g → ValueWell (f g)) → ValueWell (option_map_or f o (Replies NotHeld))
where_held None f h = tt
where_held (Some g) f h = h g refl

pub not_true : (b : Bool) → not b ≡ true → b ≡ false
not_true true is = sym is
not_true false is = refl

few_bytes : (n : ℕ) → IsTrue (is_in_range 1 256 n) → n ≤ 256
few_bytes n h = grind (arith, nat_tests, h)

set_well : (x : Step) (r : ResourceArg) (p now : ℕ) (bytes : List ℕ) → Whole x → IsValueArg bytes → ValueWell (decided x.setting (seen x) now (SetLvb r p bytes))
unfolding decided
set_well x r p now bytes w arg =
    in_session (session_named x.setting (seen x) r.lockspace)
    (λ s. unless_refused (session_refusal x.setting (seen x) s ∷ process_refusal (seen x) p ∷ choose (is_none (holding_of (seen x) s (spot_of r) p serves)) NotHeld ∷ pending_refusal x.setting (seen x) (spot_of r) ∷ []) (option_map_or (sets s) (holding_of (seen x) s (spot_of r) p serves) (Replies NotHeld)))
    (λ s named. unless (session_refusal x.setting (seen x) s ∷ process_refusal (seen x) p ∷ choose (is_none (holding_of (seen x) s (spot_of r) p serves)) NotHeld ∷ pending_refusal x.setting (seen x) (spot_of r) ∷ []) (option_map_or (sets s) (holding_of (seen x) s (spot_of r) p serves) (Replies NotHeld))
    (where_held (holding_of (seen x) s (spot_of r) p serves) (sets s) (λ g held. by s named g held (is_number (next_value_seq x.setting (seen x) s (spot_of r) g.lver)) refl))) where
      serves : Grant → Bool
      serves g = not (is_shared g.mode)

      sets : Session → Grant → Decision
      sets s g = setting_value s (spot_of r) g (next_value_seq x.setting (seen x) s (spot_of r) g.lver) bytes

      inside : (s : Session) → session_named x.setting (seen x) r.lockspace ≡ Some s → Contains (sessions x.setting (seen x)) s
      inside s named =
          (present_is x.setting (seen x) s (find_inside (λ (z : Session). bytes_eq z.lockspace r.lockspace) (present_sessions x.setting (seen x)) s named).0).0

      by : (s : Session) → session_named x.setting (seen x) r.lockspace ≡ Some s → (g : Grant) → holding_of (seen x) s (spot_of r) p (λ z. not (is_shared z.mode)) ≡ Some g → (b : Bool)
          → is_number (next_value_seq x.setting (seen x) s (spot_of r) g.lver) ≡ b
          → ValueWell (elim b as (λ z. Decision) [
            | false ↦ Replies (LimitReached SeqLimit)
            | true ↦ SetsValue s (spot_of r) (record { host = s.id; lver = g.lver; seq = next_value_seq x.setting (seen x) s (spot_of r) g.lver; bytes = bytes })
          ])
      by s named g held false low = tt
      by s named g held true low =
          let found = find_inside (λ (z : Grant). z.process == p && not (is_shared z.mode)) (holdings_on (seen x) s (spot_of r)) g held in
          let on = kept_inside (λ (z : Grant). same_place z.path z.offset (spot_of r).path (spot_of r).base) (holdings_of (seen x) s) g found.0 in
          let mine = kept_inside (λ (z : Grant). z.session == s.number) (holdings (seen x)) g on.0 in
          record {
            host = (session_id x.setting (seen x) s w.setting (inside s named)).1;
            lver = held_lver x g w mine.0 (not_true (is_shared g.mode) (and_true (g.process == p) (not (is_shared g.mode)) found.1).1);
            seq = fits_it (next_value_seq x.setting (seen x) s (spot_of r) g.lver) low;
            bytes = (few_bytes (length bytes) arg.long, arg.each);
          }

-- The value of a decision.
pub values_well : (x : Step) (c : Command) (s : Session) (at : Spot) (v : ValueRec) → Whole x → IsCommand x.setting.layout c → decided x.setting (seen x) x.reading c ≡ SetsValue s at v → IsValue v
values_well x c s at v w command is =
    let f : DecisionFits x.setting (seen x) c (SetsValue s at v) = subst (λ d. DecisionFits x.setting (seen x) c d) is (decisions_fit x.setting (seen x) x.reading c) in
    let r = f.1.0 in
    let set = f.1.3 in
    let arg = subst (λ k. IsCommand x.setting.layout k) set.2 command in
    subst ValueWell (ap (λ k. decided x.setting (seen x) x.reading k) (sym set.2) ∙ is) (set_well x r set.0 x.reading set.1 w arg.2)
