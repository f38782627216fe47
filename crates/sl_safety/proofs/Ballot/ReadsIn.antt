-- A read of a session's lease at a front of its trace, in the whole trace: it gave the same, by the calls of the lease before it.
use Rattle.sl_safety.proofs.Resources.CallParts.{pair_parts}
use Rattle.sl_run_law.specs.Course.CallStamps.{Pairwise}
use Rattle.sl_safety.proofs.Ballot.EndedGrown.{Alike, aged, all_aged, grown_to}
use Rattle.sl_sector.specs.declared.sector.Block.{Block}
use Rattle.sl_trace.specs.Leases.{blocks_given, is_lease_call, is_on, lease_calls}
use Rattle.sl_trace.specs.Traces.{Setting, Submitted, Trace, new_call, submitted}
use Rattle.sl_trace.specs.declared.effects.Call.{Call}
use Rattle.sl_trace.specs.declared.effects.Spot.{Spot}
use Rattle.sl_trace.specs.declared.session.Session.{Session}
use Rattle.sl_run_law.proofs.Leases.AgeLaws.{aged_lease, blocks_stay}
use Rattle.sl_run_law.specs.Leases.CallFronts.{AllAged}
use Rattle.sl_run_law.specs.Leases.Ways.{lease_among}
use Rattle.std.proofs.Common.{ap, append_assoc, refl, subst, sym, ◌∙◌}
use Rattle.std.specs.Prelude.{List, Option, Some, true, [], ℕ, ◌++◌, ◌∷◌, ◌≡◌}
use Rattle.sl_words.proofs.CaseLaws.{none_some, some_value}
use Rattle.sl_words.specs.Words.{first_of_list}
use Rattle.sl_safety.proofs.Resources.TraceReads.{among_split, lease_parts}

-- ---- among all calls

-- A call of the lease, with the calls of the lease before it, among these calls.
pub record CallIn (st : Setting) (s : Session) (at : Spot) (ms : List Submitted) (read : Submitted) (before : List Submitted) : Type 0 where
  pub newer : List Submitted
  pub older : List Submitted
  pub is : ms ≡ newer ++ read ∷ older
  pub rest : lease_among st s at older ≡ before
  pub mine : read.call.session ≡ s.number
  pub lease : is_lease_call read ≡ true
  pub on : is_on st.layout at read.call ≡ true

pub call_in : (st : Setting) (s : Session) (at : Spot) (ms after before : List Submitted) (read : Submitted) → lease_among st s at ms ≡ after ++ read ∷ before
    → CallIn st s at ms read before
call_in st s at ms after before read is =
    let l = lease_parts st s at ms after read before is in
    let a = among_split st s at ms after read before is in
    record { newer = l.newer; older = l.older; is = l.is; rest = l.rest; mine = a.session; lease = a.lease; on = a.on }

-- ---- in the whole trace

pub record ReadIn (st : Setting) (s : Session) (at : Spot) (es : Trace) (was : Submitted) (before : List Submitted) (bs : List (Option Block)) : Type 0 where
  pub newer : List Submitted
  pub read : Submitted
  pub older : List Submitted
  pub is : submitted es ≡ newer ++ read ∷ older
  pub alike : Alike was read
  pub rest : AllAged 0 before (lease_among st s at older)
  pub mine : read.call.session ≡ s.number
  pub lease : is_lease_call read ≡ true
  pub on : is_on st.layout at read.call ≡ true
  pub given : blocks_given st.layout read (lease_among st s at older) ≡ Some bs

pub read_in : (st : Setting) (later front : Trace) (s : Session) (at : Spot) (after before : List Submitted) (was : Submitted) → lease_calls st front s at ≡ after ++ was ∷ before
    → (bs : List (Option Block)) → blocks_given st.layout was before ≡ Some bs → ReadIn st s at (later ++ front) was before bs
read_in st later front s at after before was split bs given =
    let c = call_in st s at (submitted front) after before was split in
    let g = grown_to later front in
    let r = pair_parts Alike c.newer was c.older g.now (subst (λ ms. Pairwise Alike ms g.now) c.is g.alike) in
    let rest : AllAged 0 before (lease_among st s at r.older) =
    subst (λ ms. AllAged 0 ms (lease_among st s at r.older)) c.rest (aged_lease st s at 0 c.older r.older (all_aged c.older r.older r.pairs)) in
    record {
      newer = g.newer ++ r.newer;
      read = r.one;
      older = r.older;
      is = g.is ∙ ap (λ ms. g.newer ++ ms) r.is ∙ sym (append_assoc g.newer r.newer (r.one ∷ r.older));
      alike = r.pair;
      rest = rest;
      mine = ap (λ (y : Call). y.session) r.pair.call ∙ c.mine;
      lease = ap (λ (y : Call). is_lease_call (new_call 0 0 y)) r.pair.call ∙ c.lease;
      on = ap (λ (y : Call). is_on st.layout at y) r.pair.call ∙ c.on;
      given = blocks_stay st.layout 0 was r.one before (lease_among st s at r.older) bs (aged was r.one r.pair) rest given;
    }

-- The newest of calls, before they have aged.
pub first_in : (n : ℕ) (xs ys : List Submitted) (y : Submitted) → AllAged n xs ys → first_of_list ys ≡ Some y → (x : Submitted) × (first_of_list xs ≡ Some x) × (y.at ≡ x.at)
first_in n [] [] y h first = absurd (none_some y first)
first_in n [] (z ∷ ys) y h first = absurd h
first_in n (x ∷ xs) [] y h first = absurd h
first_in n (x ∷ xs) (z ∷ ys) y h first = (x, refl, ap (λ (m : Submitted). m.at) (sym (some_value z y first)) ∙ h.0.at)
