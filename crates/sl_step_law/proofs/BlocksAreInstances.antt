-- What a lease writes is in an instance above 0, and who has written a block has verified the resource's name.
use Rattle.sl_due_leases.proofs.Leases.NamesVerified.{has_verified}
use Rattle.sl_due_facts.proofs.Sessions.JoinedNumbers.{spelled_of}
use Rattle.sl_due_law.proofs.LawfulTraces.LeaderWrites.{named_well}
use Rattle.sl_due_leases.proofs.Ways.NewestCall.{block_is, leader_is_no_block, read_writes_no_block, submitted_here, submitted_passed}
use Rattle.sl_due_leases.proofs.Ways.WayNumbers.{Doing, Frees, Reads, Takes, Writes_ballot, Writes_mode, doing, is_verified}
use Rattle.sl_due_facts.specs.Facts.WayFacts.{WayContext, Ways, way_context}
use Rattle.sl_run.specs.Lawful.{IsSetting, Orderly}
use Rattle.sl_lease.specs.Bounds.{IsInstance}
use Rattle.sl_trace.specs.Leases.{block_of_record, block_submitted, block_written, is_lease_call, is_on, lease_calls, verified_name}
use Rattle.sl_words.proofs.Lists.{contains_cases, contains_none, kept_inside}
use Rattle.sl_words.proofs.Options.{some_of, then_value}
use Rattle.sl_sector.specs.Records.{IsBlock, IsRecord}
use Rattle.sl_sector.specs.declared.sector.Block.{Block}
use Rattle.sl_sector.specs.declared.sector.Rec.{Rec}
use Rattle.sl_sector.specs.declared.sector.Rec.TheVariants.{BlockIs, DeltaIs, LeaderIs, PairIs, PairLeaderIs, RequestIs, ValueIs}
use Rattle.sl_trace.specs.Sessions.{calls_of, is_call_of, sessions}
use Rattle.sl_trace.specs.declared.session.Session.{Session}
use Rattle.sl_text.specs.Names.{is_name}
use Rattle.sl_trace.specs.Traces.{Setting, Submitted, Trace, record_of, submitted}
use Rattle.sl_trace.specs.declared.effects.Spot.{Spot}
use Rattle.sl_words.proofs.CaseLaws.{none_some, some_value}
use Rattle.sl_words.specs.Words.{is_empty}
use Rattle.std.proofs.Common.{ap, arith, inl, inr, refl, subst, sym, ◌∙◌}
use Rattle.std.specs.Prelude.{Contains, IsTrue, List, None, Option, Some, is_some, not, true, [], ℕ, ◌&&◌, ◌<◌, ◌∷◌, ◌≡◌, ◌≤◌, ◌⊎◌}

-- ---- instances

above_some : (a b : ℕ) → a < b → 1 ≤ b
above_some a b less = omega (arith, less)

-- The own block is in an instance.
pub own_above : (w : WayContext) (ms : List Submitted) → Ways w ms → (b : Block) → block_submitted ms ≡ Some b → 1 ≤ b.lver
own_above w [] h b is = absurd (none_some b is)
own_above w (m ∷ ms) h b is = by (doing w m ms h.1 h.0) (own_above w ms h.1) where
  passed : block_written m ≡ None → ((z : Block) → block_submitted ms ≡ Some z → 1 ≤ z.lver) → 1 ≤ b.lver
  passed none before = before b (sym (submitted_passed m ms none) ∙ is)

  here : (z : Block) → block_written m ≡ Some z → 1 ≤ z.lver → 1 ≤ b.lver
  here z wrote some = subst (λ (y : Block). 1 ≤ y.lver) (some_value z b (sym (submitted_here m ms z wrote) ∙ is)) some

  by : Doing w m ms → ((z : Block) → block_submitted ms ≡ Some z → 1 ≤ z.lver) → 1 ≤ b.lver
  by (Reads n op) before = passed (read_writes_no_block m n op) before
  by (Writes_ballot z op up fresh named) before = here z (block_is w ms m z op) (above_some _ z.lver fresh)
  by (Writes_mode z own op known same other) before = here z (block_is w ms m z op) (subst (λ n. 1 ≤ n) same (before own known))
  by (Takes l op held) before = passed (leader_is_no_block w m l op) before
  by (Frees l op free won concluded) before = passed (leader_is_no_block w m l op) before

-- So is each block that was written, and one was submitted.
pub written_above : (w : WayContext) (ms : List Submitted) → Ways w ms → (d : Submitted) (b : Block) → Contains ms d → block_written d ≡ Some b → (1 ≤ b.lver) × (is_some (block_submitted ms) ≡ true)
written_above w [] h d b there wrote = absurd (contains_none d there)
written_above w (m ∷ ms) h d b there wrote = by (contains_cases m ms d there) (written_above w ms h.1 d b) where
  later : (o : Option Block) → is_some (block_submitted ms) ≡ true → is_some (elim o as (λ z. Option Block) [ Some b ↦ Some b | None ↦ block_submitted ms ]) ≡ true
  later (Some z) some = refl
  later None some = some

  by : (m ≡ d) ⊎ Contains ms d → (Contains ms d → block_written d ≡ Some b → (1 ≤ b.lver) × (is_some (block_submitted ms) ≡ true)) → (1 ≤ b.lver) × (is_some (block_submitted (m ∷ ms)) ≡ true)
  by (inl is) before =
      let here : block_written m ≡ Some b = ap (λ z. block_written z) is ∙ wrote in
      let own : block_submitted (m ∷ ms) ≡ Some b = submitted_here m ms b here in
      (own_above w (m ∷ ms) h b own, ap (λ o. is_some o) own)
  by (inr more) before = let z = before more wrote in (z.0, later (block_written m) z.1)

-- A block that is written is one of a record.
block_in_record : (r : Rec) (b : Block) → block_of_record r ≡ Some b → IsRecord r → IsBlock b
block_in_record (BlockIs z) b is good = subst IsBlock (some_value z b is) good
block_in_record (PairIs p) b is good = subst IsBlock (some_value p.block b is) good.block
block_in_record (LeaderIs l) b is good = absurd (none_some b is)
block_in_record (PairLeaderIs l) b is good = absurd (none_some b is)
block_in_record (DeltaIs d) b is good = absurd (none_some b is)
block_in_record (RequestIs q) b is good = absurd (none_some b is)
block_in_record (ValueIs v) b is good = absurd (none_some b is)

-- Of a session's calls on an area.
pub block_instance : (st : Setting) (t : Trace) (s : Session) (at : Spot) (d : Submitted) (b : Block) → Orderly st t → Ways (way_context st t s) (lease_calls st t s at) → Contains (lease_calls st t s at) d
    → block_written d ≡ Some b → IsInstance b.lver × (is_some (block_submitted (lease_calls st t s at)) ≡ true)
block_instance st t s at d b order ways there wrote =
    let mine = kept_inside (λ (z : Submitted). is_lease_call z && is_on st.layout at z.call) (calls_of t s) d there in
    let inside = kept_inside (is_call_of s) (submitted t) d mine.0 in
    let is = then_value block_of_record (record_of d.call.op) b wrote in
    let block = block_in_record is.0 b is.2 (spelled_of st t d is.0 order inside.0 is.1) in
    let above = written_above (way_context st t s) (lease_calls st t s at) ways d b there wrote in
    ((above.0, block.lver), above.1)

-- ---- names

pub named_some : (n : List ℕ) → IsTrue (is_name n) → IsTrue (not (is_empty n))
named_some [] is = absurd cc
named_some (c ∷ cs) is = refl

pub name_verified : (st : Setting) → IsSetting st → (t : Trace) (s : Session) → Contains (sessions st t) s → (at : Spot) → Ways (way_context st t s) (lease_calls st t s at) → is_some (block_submitted (lease_calls st t s at)) ≡ true
    → IsTrue (not (is_empty (verified_name st.layout s.lockspace (lease_calls st t s at))))
name_verified st setting t s listed at ways wrote =
    let b = some_of (block_submitted (lease_calls st t s at)) wrote in
    named_some (verified_name st.layout s.lockspace (lease_calls st t s at))
    (named_well st t s at (verified_name st.layout s.lockspace (lease_calls st t s at)) setting listed
    (has_verified st t s at ways (is_verified (way_context st t s) (lease_calls st t s at) ways b.0 b.1)))
