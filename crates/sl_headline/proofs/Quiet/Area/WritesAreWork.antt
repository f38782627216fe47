-- Whoever wrote on a resource's area did it for its work there, as a session of the resource's lockspace: a delta record is written at the
-- own sector alone, which is in the area of a lockspace, and before any other record the session has read the resource's leader.
use Rattle.sl_area.specs.AreaSizes.{Layout}
use Rattle.sl_area.specs.AreaLayout.{delta_offset, in_area}
use Rattle.sl_safety.specs.Resources.HistoryLaws.{spot_of_line}
use Rattle.sl_run.specs.LawfulArea.{is_area_work, is_delta_record}
use Rattle.sl_trace.specs.Leases.{is_on}
use Rattle.sl_words.proofs.Lists.{got_inside}
use Rattle.sl_headline.specs.Quiet.Area.CalmAreas.{IsWriteFor, WritesAreWork}
use Rattle.sl_run.specs.Safety.{world_at}
use Rattle.sl_run.specs.Worlds.{World}
use Rattle.sl_run.specs.declared.header.ResourceLine.{ResourceLine}
use Rattle.sl_run_law.proofs.Place.Areas.{base_around, lockspace_aligned, never_both, one_resource, resource_aligned, same_base}
use Rattle.sl_run_law.proofs.Place.FoundInLists.{same_text}
use Rattle.sl_run_law.proofs.Place.LandingsAtHome.{at_home}
use Rattle.sl_run_law.proofs.Place.VerifiedAreas.{IsLeased, verified_leased}
use Rattle.sl_run_law.proofs.Place.Looks.{IsOwnDelta, Look, delta_is_own}
use Rattle.sl_run_law.proofs.Place.PlaceLaws.{promised}
use Rattle.sl_run_law.proofs.Place.TracesOnMachines.{IsTraced, call_law, owner_of, traced}
use Rattle.sl_run_law.proofs.Place.Seats.{HomeBefore, IsSeated, delta_within, given_seated, look_seated, sized_in}
use Rattle.sl_run_law.proofs.Place.Sizes.{IsSized}
use Rattle.sl_sector.specs.declared.sector.DeltaRec.{DeltaRec}
use Rattle.sl_sector.specs.declared.sector.Rec.TheVariants.{BlockIs, DeltaIs, LeaderIs, PairIs, PairLeaderIs, RequestIs, ValueIs}
use Rattle.sl_sector.specs.declared.sector.Rec.{Rec}
use Rattle.sl_trace.specs.Sessions.{delta_of_record, delta_written, session_numbered, sessions}
use Rattle.sl_trace.specs.declared.session.Session.{Session}
use Rattle.sl_trace.specs.Traces.{Setting, Submitted, Trace, is_write, record_of}
use Rattle.sl_trace.specs.declared.effects.Call.{Call}
use Rattle.sl_trace.specs.declared.effects.Op.TheVariants.{ReadSectors, WriteRecord}
use Rattle.sl_trace.specs.declared.effects.Op.{Op}
use Rattle.sl_run_law.proofs.Sessions.CallsAreMade.{calls_are_made}
use Rattle.sl_run_law.specs.Sessions.SessionLaws.{IsMade, IsSession}
use Rattle.sl_words.proofs.CaseLaws.{false_is_true}
use Rattle.sl_words.proofs.WordLaws.{and_true}
use Rattle.std.proofs.Common.{ap, inl, inr, refl, subst, sym, ◌∙◌}
use Rattle.std.specs.Prelude.{Contains, IsTrue, None, Option, Some, bytes_eq, false, option_and_then, true, ℕ, ◌≡◌, ◌⊎◌}

written_record : (op : Op) → is_write op ≡ true → (r : Rec) × (record_of op ≡ Some r)
written_record (ReadSectors n) is = absurd (false_is_true is)
written_record (WriteRecord r) is = (r, refl)

pub writes_are_work : WritesAreWork
writes_are_work p h xs r run listed m a c at has writes on = by record_is.0 refl where
  w : World
  w = world_at p h xs

  t : IsTraced a c
  t = traced promised p h xs run m a c at has

  st : Setting
  st = t.daemon.setting

  es : Trace
  es = t.daemon.trace

  q : Submitted
  q = t.submitted_as

  owner : (s : Session) × IsSession st es s × (q.call.session ≡ s.number)
  owner = owner_of st es q t.lawful t.inside

  s : Session
  s = owner.0

  z : IsSized h.geometry w.layout
  z = sized_in p h xs run

  layout : st.layout ≡ w.layout
  layout = (promised.of_world p h xs run m a t.daemon at t.has).layout

  record_is : (x : Rec) × (record_of q.call.op ≡ Some x)
  record_is = written_record q.call.op (ap (λ d. is_write d.op) t.is.call ∙ writes)

  home : HomeBefore h w c.made.step
  home y there early = at_home p h xs promised run y there

  there_on : (bytes_eq q.call.path r.path ≡ true) × (in_area w.layout r.offset q.call.offset ≡ true)
  there_on = and_true (bytes_eq q.call.path r.path) (in_area w.layout r.offset q.call.offset) (ap (λ d. is_on w.layout (spot_of_line r) d) t.is.call ∙ on)

  path : q.call.path ≡ r.path
  path = same_text q.call.path r.path there_on.0

  -- ---- no delta record

  seated : (d : DeltaRec) → IsOwnDelta st es s q d → IsSeated h w s
  seated d own = from s.job refl own.from where
    inside : Contains (sessions st es) s
    inside = got_inside (sessions st es) s.number s owner.1

    from : (o : Option ℕ) → s.job ≡ o → (s.job ≡ None) ⊎ Look st es s q.at → IsSeated h w s
    from o job (inl none) = given_seated p h xs run m a t.daemon at t.has s inside none
    from None job (inr look) = given_seated p h xs run m a t.daemon at t.has s inside job
    from (Some j) job (inr look) = look_seated p h xs promised run m a t.daemon at t.has s q.at c.made t.is.made home look

  never : (d : DeltaRec) → record_is.0 ≡ DeltaIs d → ⊥
  never d is =
      let delta : delta_written q ≡ Some d = ap (λ o. option_and_then delta_of_record o) record_is.1 ∙ ap delta_of_record is in
      let own = delta_is_own st es s q d t.lawful owner.1 t.inside owner.2 delta in
      let seat = seated d own in
      let offset : q.call.offset ≡ delta_offset w.layout seat.line.offset s.id = own.own.1 ∙ ap (λ (g : Layout). delta_offset g s.offset s.id) layout ∙ ap (λ o. delta_offset w.layout o s.id) seat.offset in
      let within : IsTrue (in_area w.layout seat.line.offset q.call.offset) =
      subst (λ o. IsTrue (in_area w.layout seat.line.offset o)) (sym offset) (delta_within w.layout seat.line.offset s.id z seat.id.0 seat.id.1) in
      never_both h seat.line r run.header seat.there listed (sym seat.path ∙ (sym own.own.0 ∙ path))
      (same_base w.layout seat.line.offset r.offset q.call.offset z (lockspace_aligned h seat.line run.header seat.there) (resource_aligned h r run.header listed) within there_on.1)

  -- ---- any other

  k : IsMade es q
  k = calls_are_made es q t.inside

  other : is_delta_record record_is.0 ≡ false → IsWriteFor r a c
  other none =
      let law = call_law st es s q k t.lawful owner.1 owner.2 in
      let write = law.0.area.0.writes k.index q.call s k.call law.1 record_is.0 record_is.1 none in
      let l : IsLeased h w s q write.1.resource = verified_leased p h xs promised run m a t.daemon at t.has t.lawful s owner.1 q k c.made t.is.made home write.1.resource write.1.verified in
      let base : l.line.offset ≡ r.offset =
      same_base w.layout l.line.offset r.offset q.call.offset z (resource_aligned h l.line run.header l.there) (resource_aligned h r run.header listed)
      (subst (λ o. IsTrue (in_area w.layout o q.call.offset)) l.base (base_around w.layout q.call.offset z)) there_on.1 in
      let one : l.line ≡ r = one_resource h l.line r run.header l.there listed (sym l.path ∙ path) base in
      record {
        daemon = t.daemon;
        numbered = t.numbered;
        session = s;
        its = ap (λ n. session_numbered st es n) (ap (λ d. d.session) (sym t.is.call) ∙ owner.2) ∙ owner.1;
        works = subst (λ (d : Call). IsTrue (is_area_work d.purpose)) t.is.call write.0;
        lockspace = l.lockspace ∙ ap (λ (y : ResourceLine). y.lockspace) one;
      }

  by : (x : Rec) → record_is.0 ≡ x → IsWriteFor r a c
  by (DeltaIs d) is = absurd (never d is)
  by (LeaderIs l) is = other (ap is_delta_record is)
  by (BlockIs b) is = other (ap is_delta_record is)
  by (PairIs b) is = other (ap is_delta_record is)
  by (PairLeaderIs l) is = other (ap is_delta_record is)
  by (RequestIs b) is = other (ap is_delta_record is)
  by (ValueIs b) is = other (ap is_delta_record is)
