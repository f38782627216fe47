-- What lands at a sector of a host's pair is a block of a session of the host, of a turn of that sector; and each such write lands there.
use Rattle.sl_area.specs.AreaSizes.{Layout}
use Rattle.sl_area.specs.AreaLayout.{in_area, pair_offset}
use Rattle.sl_safety.proofs.GivenReads.ShownAtPlace.{sender_is, step_is}
use Rattle.sl_safety.proofs.Resources.Calls.{found_of, holder_is, made_of, owned, owner_found, owner_layout, spot_is, there_sent}
use Rattle.sl_safety.proofs.Resources.StepsNameCalls.{finds_it, named, sent_format, text_same}
use Rattle.sl_safety.specs.Resources.Histories.{is_host}
use Rattle.sl_safety.specs.Resources.SampledReads.{step_of_landing}
use Rattle.sl_safety.specs.Resources.Orders.{BlockSent}
use Rattle.sl_safety.specs.Resources.HistoryLaws.{spot_of_line}
use Rattle.sl_safety.specs.Resources.SentCalls.{Sent, all_sent, sender_of, step_of, writes_block}
use Rattle.sl_safety.proofs.Pairs.Places.{IsPairOf, only_pairs, pair_within}
use Rattle.sl_safety.specs.Pairs.PairLogs.{turn_of_sent}
use Rattle.sl_run.specs.LawfulArea.{LawfulAreaWrite, is_delta_record, is_of_format}
use Rattle.sl_run.specs.Runs.{Happening}
use Rattle.sl_run.specs.Safety.{LawfulRun, setting_in, world_at}
use Rattle.sl_run.specs.Worlds.{Course, Landing, Program, World}
use Rattle.sl_run.specs.declared.header.Header.{Header}
use Rattle.sl_run.specs.declared.header.ResourceLine.{ResourceLine}
use Rattle.sl_run_law.proofs.Course.CallsAreDistinct.{each_distinct}
use Rattle.sl_run_law.proofs.Landing.CallLists.{one_call}
use Rattle.sl_run_law.proofs.Place.Checks.{placed_in_world}
use Rattle.sl_run_law.proofs.Place.FoundInLists.{same_text}
use Rattle.sl_run_law.proofs.Place.PlaceLaws.{resources_hold_leases}
use Rattle.sl_run_law.proofs.Place.TracesOnMachines.{call_law}
use Rattle.sl_run_law.proofs.Place.Seats.{sized_in}
use Rattle.sl_run_law.specs.Landing.Landings.{LeftBy}
use Rattle.sl_run_law.specs.Place.Homes.{IsLeaseLanding}
use Rattle.sl_sector.specs.SectorLayouts.{is_first_turn}
use Rattle.sl_sector.specs.declared.sector.PairBlock.{PairBlock}
use Rattle.sl_sector.specs.declared.sector.Rec.TheVariants.{BlockIs, DeltaIs, LeaderIs, PairIs, PairLeaderIs, RequestIs, ValueIs}
use Rattle.sl_sector.specs.declared.sector.Rec.{Rec}
use Rattle.sl_trace.specs.Leases.{block_of_record, is_on, spot_of_call, turn_of_record}
use Rattle.sl_trace.specs.Traces.{Setting, Submitted, record_of}
use Rattle.sl_trace.specs.declared.effects.Call.{Call}
use Rattle.sl_trace.specs.declared.effects.Spot.{Spot}
use Rattle.sl_run_law.specs.Sessions.SessionLaws.{front_of, made_as}
use Rattle.sl_words.proofs.CaseLaws.{false_is_true, some_value, true_is_false}
use Rattle.sl_words.proofs.WordLaws.{and_true}
use Rattle.std.proofs.Common.{ap, refl, subst, sym, ◌∙◌}
use Rattle.std.proofs.lemmas.Bool.{and_from, eq-eqb}
use Rattle.std.specs.Prelude.{Bool, Contains, IsTrue, List, None, Option, Some, bytes_eq, false, is_some, not, option_and_then, true, unwrap_or, ℕ, ◌==◌, ◌≡◌}

-- ---- what landed there

pub record IsPairLanding (p : Program) (h : Header) (xs : List Happening) (r : ResourceLine) (k : ℕ) (first : Bool) (l : Landing) : Type 0 where
  pub sent : Sent
  pub block : BlockSent (world_at p h xs) r k sent
  pub pair : PairBlock
  pub writes : record_of sent.course.call.op ≡ Some (PairIs pair)
  pub side : is_first_turn pair.turn ≡ first
  pub writer : l.writer ≡ Some (sent.machine, sent.course.call.number)
  pub left : LeftBy (world_at p h xs) l sent.course (PairIs pair)
  pub step : step_of_landing (world_at p h xs) l ≡ step_of sent

wrote_block : (o : Option Rec) (q : PairBlock) → o ≡ Some (PairIs q) → is_some (option_and_then block_of_record o) ≡ true
wrote_block o q is = ap (λ z. is_some (option_and_then block_of_record z)) is

pub pair_landing : (p : Program) (h : Header) (xs : List Happening) → LawfulRun p h xs → (r : ResourceLine) → Contains h.resources r → (world_at p h xs).layout.paired ≡ true → (k : ℕ)
    → is_host (world_at p h xs) k ≡ true → (first : Bool) (l : Landing) → Contains (world_at p h xs).landings l → l.path ≡ r.path
    → l.offset ≡ pair_offset (world_at p h xs).layout r.offset k first → IsPairLanding p h xs r k first l
pair_landing p h xs run r there paired k host first l landed path offset =
    let w : World = world_at p h xs in
    let z = sized_in p h xs run in
    let d : IsLeaseLanding w r l =
    resources_hold_leases p h xs run r there l landed path (subst (λ o. IsTrue (in_area w.layout r.offset o)) (sym offset) (pair_within w r.offset k first z paired host)) in
    let wrote = d.written.wrote in
    let c : Course = wrote.course in
    let m : ℕ = d.written.machine in
    let x : Sent = record { machine = m; course = c } in
    let has : Contains (all_sent w) x = there_sent w m wrote.machine c wrote.at wrote.has in
    let b : IsPairOf d.written.found.session k first wrote.record_written =
    only_pairs (setting_in d.written.found) w d.written.found.session (spot_of_line r) k first wrote.record_written l.offset paired
    (sent_format p h xs run x has wrote.record_written wrote.writes d.other) (placed_in_world p h xs run r l d) z host d.placed offset in
    let number : l.writer ≡ Some (m, c.call.number) = d.written.named ∙ ap (λ n. Some (m, n)) (sym wrote.number) in
    let writes : record_of c.call.op ≡ Some (PairIs b.pair) = wrote.writes ∙ ap (λ y. Some y) b.is in
    record {
      sent = x;
      block = record {
        sent = has;
        on = and_from _ _ (text_same c.call.path r.path (wrote.place.0 ∙ path))
            (subst (λ o. in_area w.layout r.offset o ≡ true) (sym offset ∙ sym wrote.place.1) (pair_within w r.offset k first z paired host));
        block = wrote_block (record_of c.call.op) b.pair writes;
        host = ap (λ o. o.id) (holder_is w (named m c.daemon c.call.session) d.written.found (sender_is w r l d)) ∙ b.host;
      };
      pair = b.pair;
      writes = writes;
      side = b.side;
      writer = number;
      left = subst (λ y. LeftBy w l c y) b.is wrote.left;
      step = step_is w l m c.call.number wrote.machine c number wrote.at
          (finds_it (λ (y : Course). y.call.number == c.call.number) wrote.machine.calls c wrote.has (eq-eqb c.call.number c.call.number refl)
          (λ y inside same. one_call wrote.machine.calls y c (each_distinct p h xs run m wrote.machine wrote.at) inside wrote.has same));
    }

-- ---- where a block is sent to

-- With pairs a block that is written is a pair's.
pair_by : (g : Layout) → g.paired ≡ true → (o : Option Rec) → ((rec : Rec) → o ≡ Some rec → is_delta_record rec ≡ false → is_of_format g rec ≡ true)
    → is_some (option_and_then block_of_record o) ≡ true → (q : PairBlock) × (o ≡ Some (PairIs q))
pair_by g paired None format h = absurd (false_is_true h)
pair_by g paired (Some (PairIs q)) format h = (q, refl)
pair_by g paired (Some (BlockIs b)) format h = absurd (true_is_false (sym (format (BlockIs b) refl refl) ∙ ap not paired))
pair_by g paired (Some (LeaderIs l)) format h = absurd (false_is_true h)
pair_by g paired (Some (PairLeaderIs l)) format h = absurd (false_is_true h)
pair_by g paired (Some (DeltaIs l)) format h = absurd (false_is_true h)
pair_by g paired (Some (RequestIs l)) format h = absurd (false_is_true h)
pair_by g paired (Some (ValueIs l)) format h = absurd (false_is_true h)

pub pair_written : (p : Program) (h : Header) (xs : List Happening) → LawfulRun p h xs → (world_at p h xs).layout.paired ≡ true → (x : Sent) → Contains (all_sent (world_at p h xs)) x
    → writes_block x.course ≡ true → (q : PairBlock) × (record_of x.course.call.op ≡ Some (PairIs q))
pair_written p h xs run paired x sent is =
    pair_by (world_at p h xs).layout paired (record_of x.course.call.op) (λ rec writes other. sent_format p h xs run x sent rec writes other) is

turn_by : (o : Option Rec) (q : PairBlock) → o ≡ Some (PairIs q) → unwrap_or (option_and_then turn_of_record o) 0 ≡ q.turn
turn_by o q is = ap (λ z. unwrap_or (option_and_then turn_of_record z) 0) is

pub turn_sent : (x : Sent) (q : PairBlock) → record_of x.course.call.op ≡ Some (PairIs q) → turn_of_sent x ≡ q.turn
turn_sent x q is = turn_by (record_of x.course.call.op) q is

-- Where it was sent: to the sector of its turn.
pub record SentTo (w : World) (r : ResourceLine) (k : ℕ) (x : Sent) (q : PairBlock) : Type 0 where
  pub path : x.course.call.path ≡ r.path
  pub offset : x.course.call.offset ≡ pair_offset w.layout r.offset k (is_first_turn q.turn)

pub sent_to : (p : Program) (h : Header) (xs : List Happening) → LawfulRun p h xs → (r : ResourceLine) → Contains h.resources r → (k : ℕ) (x : Sent) → BlockSent (world_at p h xs) r k x
    → (q : PairBlock) → record_of x.course.call.op ≡ Some (PairIs q) → SentTo (world_at p h xs) r k x q
sent_to p h xs run r there k x b q is =
    let w : World = world_at p h xs in
    let o = owned p h xs run x b.sent in
    let st : Setting = o.trace.daemon.setting in
    let m : Submitted = o.trace.submitted_as in
    let d = made_of o in
    let law = call_law st o.trace.daemon.trace o.session m d o.trace.lawful o.its o.mine in
    let write : LawfulAreaWrite st (front_of d) o.session (made_as d) (PairIs q) =
    (law.0.area.0.writes d.index m.call o.session d.call law.1 (PairIs q) (ap (λ (c : Call). record_of c.op) o.trace.is.call ∙ is) refl).1 in
    let layout : st.layout ≡ w.layout = owner_layout p h xs run x o in
    let spot : spot_of_call st.layout (made_as d) ≡ spot_of_line r =
    ap (λ (g : Layout). spot_of_call g (made_as d)) layout ∙ spot_is p h xs run r there (made_as d) (ap (is_on w.layout (spot_of_line r)) o.trace.is.call ∙ b.on) in
    let id : o.session.id ≡ k = ap (λ a. a.id) (sym (holder_is w (sender_of x) (found_of o) (owner_found w x o))) ∙ b.host in
    record {
      path = same_text x.course.call.path r.path (and_true (bytes_eq x.course.call.path r.path) (in_area w.layout r.offset x.course.call.offset) b.on).0;
      offset = ap (λ (c : Call). c.offset) (sym o.trace.is.call)
          ∙ sym (some_value (pair_offset st.layout (spot_of_call st.layout (made_as d)).base o.session.id (is_first_turn q.turn)) m.call.offset write.placed)
          ∙ ap (λ (a : Spot). pair_offset st.layout a.base o.session.id (is_first_turn q.turn)) spot
          ∙ ap (λ (g : Layout). pair_offset g r.offset o.session.id (is_first_turn q.turn)) layout
          ∙ ap (λ n. pair_offset w.layout r.offset n (is_first_turn q.turn)) id;
    }
