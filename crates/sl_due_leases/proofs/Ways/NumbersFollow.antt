-- The numbers of leases follow from the ways of their calls.
use Rattle.sl_due_leases.proofs.Ways.WaysAreLawful.BallotLaws.{own_is}
use Rattle.sl_due_leases.proofs.Ways.WayNumbers.{IsOpened, freed_below, is_opened, lver_of, own_lver}
use Rattle.sl_due_leases.specs.Ways.WayLaws.{NumbersFollow}
use Rattle.sl_trace.specs.Leases.{block_submitted, freed, lease_calls, own_block}
use Rattle.sl_sector.specs.declared.sector.Block.{Block}
use Rattle.sl_trace.specs.declared.session.Session.{Session}
use Rattle.sl_due_facts.specs.Facts.WayFacts.{Ways, way_context}
use Rattle.sl_trace.specs.Traces.{Setting, Submitted, Trace}
use Rattle.sl_trace.specs.declared.effects.Spot.{Spot}
use Rattle.sl_words.proofs.CaseLaws.{some_value}
use Rattle.std.proofs.Common.{ap, arith, refl, sym, ◌∙◌}
use Rattle.std.specs.Option.{option_map_or}
use Rattle.std.specs.Prelude.{List, None, Option, Some, ◌≡◌, ◌≤◌}

freed_by_own : (st : Setting) (t : Trace) (s : Session) (at : Spot) → Ways (way_context st t s) (lease_calls st t s at) → (b : Block)
    → own_block st.layout s.id (lease_calls st t s at) ≡ Some b → freed (lease_calls st t s at) ≤ b.lver
freed_by_own st t s at ws b known = by (block_submitted ms) refl where
  ms : List Submitted
  ms = lease_calls st t s at

  by : (o : Option Block) → block_submitted ms ≡ o → freed ms ≤ b.lver
  by None none =
      let le : freed ms ≤ own_lver ms = freed_below (way_context st t s) ms ws in
      let zero : own_lver ms ≡ 0 = ap (λ o. option_map_or (λ (x : Block). x.lver) o 0) none in omega (arith, le, zero)
  by (Some x) is =
      let le : freed ms ≤ own_lver ms = freed_below (way_context st t s) ms ws in
      let same : own_lver ms ≡ b.lver = lver_of ms x is ∙ ap (λ (z : Block). z.lver) (some_value x b (sym (own_is st t s at x is) ∙ known)) in omega (arith, le, same)

pub numbers_follow : NumbersFollow
numbers_follow st t h =
    record {
      frees = λ s at b there aligned known. freed_by_own st t s at (h.each s at there aligned) b known;
      ballot = λ s at n there aligned is.
          let o : IsOpened (lease_calls st t s at) n = is_opened (way_context st t s) (lease_calls st t s at) (h.each s at there aligned) n is in
          (o.own, o.known, o.under, o.fresh);
    }
