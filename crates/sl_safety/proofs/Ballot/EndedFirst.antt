-- A read of phase 2 that is made once more: the first one, too, was submitted after the block was answered ok.
use Rattle.sl_safety.proofs.Resources.RepeatedReads.{AgainRests, again_rests, one_kind, same_at}
use Rattle.sl_run.specs.Lawful.{Orderly}
use Rattle.sl_run.specs.LawfulBlock.{FirstAfter, ReadAfter}
use Rattle.sl_safety.proofs.Ballot.ReadsIn.{CallIn, call_in}
use Rattle.sl_sector.specs.declared.sector.Block.{Block}
use Rattle.sl_trace.specs.Leases.{Mode_cleared, Mode_set, Phase1_write, Phase2_read, Phase2_write, block_written, is_at, is_on, spot_of_call}
use Rattle.sl_trace.specs.Sessions.{session_numbered}
use Rattle.sl_trace.specs.Traces.{Setting, Submitted, Trace, submitted}
use Rattle.sl_trace.specs.declared.effects.Spot.{Spot}
use Rattle.sl_trace.specs.declared.session.Session.{Session}
use Rattle.sl_run_law.proofs.Leases.RestLaws.{phase2_is_read}
use Rattle.sl_run_law.proofs.Leases.SpotLaws.{areas_are_apart}
use Rattle.sl_run_law.specs.Leases.Ways.{Of_mode, Of_phase1, Of_phase2, Phase2ReadRests, Way, lease_among}
use Rattle.sl_words.proofs.CaseLaws.{one_value, some_value}
use Rattle.sl_words.specs.Words.{first_of_list}
use Rattle.std.proofs.Common.{ap, append_assoc, inl, inr, refl, subst, sym, ◌∙◌}
use Rattle.std.specs.Prelude.{List, None, Option, Some, cond, find, is_some, true, [], ◌++◌, ◌∷◌, ◌≡◌, ◌≤◌}
use Rattle.sl_run_law.proofs.Leases.NumberLaws.{number_is_place}
use Rattle.sl_run_law.proofs.Leases.ComingLaws.{blocks_come}

-- ---- a read writes no block

apart_way : (s : Session) (c : Submitted) (own b : Block) → is_at Phase2_read c ≡ true → Way s c own b → ⊥
apart_way s c own b at (Of_phase1 one h) = let e = one_kind Phase2_read Phase1_write c at one in absurd cc
apart_way s c own b at (Of_phase2 two h) = let e = one_kind Phase2_read Phase2_write c at two in absurd cc
apart_way s c own b at (Of_mode (inl set) h) = let e = one_kind Phase2_read Mode_set c at set in absurd cc
apart_way s c own b at (Of_mode (inr cleared) h) = let e = one_kind Phase2_read Mode_cleared c at cleared in absurd cc

none_by : (st : Setting) (es : Trace) → Orderly st es → 1 ≤ st.layout.hosts → (newer older : List Submitted) (c : Submitted) → submitted es ≡ newer ++ c ∷ older → is_at Phase2_read c ≡ true
    → (s : Session) → session_numbered st es c.call.session ≡ Some s → (o : Option Block) → block_written c ≡ o → block_written c ≡ None
none_by st es law some newer older c is at s known None wrote = wrote
none_by st es law some newer older c is at s known (Some b) wrote =
    let k = blocks_come st es law some newer older c b is wrote s known in absurd (apart_way s c k.own b at k.way)

-- ---- the block before it

abbrev last_block : List Submitted → Option Submitted
last_block ms = find (λ d. is_some (block_written d)) ms

passed : (c : Submitted) (ms : List Submitted) → block_written c ≡ None → last_block (c ∷ ms) ≡ last_block ms
passed c ms none = ap (λ o. cond (is_some o) (Some c) (last_block ms)) none

pub first_after : (st : Setting) (es : Trace) → Orderly st es → 1 ≤ st.layout.hosts → (newer older : List Submitted) (c : Submitted) → submitted es ≡ newer ++ c ∷ older
    → is_at Phase2_read c ≡ true → (s : Session) → session_numbered st es c.call.session ≡ Some s → (spot : Spot) → spot_of_call st.layout c ≡ spot
    → (k : Phase2ReadRests st s spot older c) → FirstAfter k.write c (lease_among st s spot older)
first_after st es law some newer older c is at s known spot there k = λ again first found.
    let a : AgainRests st s spot older c = subst (λ z. AgainRests st s z older c) there (again_rests st es law newer older c is again s known) in
    let one : a.first ≡ first = some_value a.first first (sym (ap (λ ms. first_of_list ms) a.newest) ∙ found) in
    let f : CallIn st s spot older a.first a.rest = call_in st s spot older [] a.rest a.first a.newest in
    let whole : submitted es ≡ (newer ++ c ∷ f.newer) ++ a.first ∷ f.older =
    is ∙ ap (λ ms. newer ++ c ∷ ms) f.is ∙ sym (append_assoc newer (c ∷ f.newer) (a.first ∷ f.older)) in
    let n = number_is_place st es c.call.session s known in
    let its : session_numbered st es a.first.call.session ≡ Some s = ap (λ i. session_numbered st es i) (f.mine ∙ n) ∙ known in
    let at_first : is_at Phase2_read a.first ≡ true = same_at Phase2_read a.first c a.same ∙ at in
    let r : Phase2ReadRests st s (spot_of_call st.layout a.first) f.older a.first = phase2_is_read st es law (newer ++ c ∷ f.newer) f.older a.first whole at_first s its in
    let same : spot_of_call st.layout a.first ≡ spot =
    areas_are_apart st.layout c a.first (ap (λ z. is_on st.layout z a.first.call) there ∙ f.on) ∙ there in
    let before : last_block a.rest ≡ Some r.write =
    ap (λ ms. last_block ms) (sym f.rest) ∙ ap (λ z. last_block (lease_among st s z f.older)) (sym same) ∙ r.last in
    let none = none_by st es law some (newer ++ c ∷ f.newer) f.older a.first whole at_first s its (block_written a.first) refl in
    let here : last_block a.rest ≡ Some k.write = sym (passed a.first a.rest none) ∙ ap (λ ms. last_block ms) (sym a.newest) ∙ k.last in
    subst (λ w. ReadAfter w first) (one_value r.write k.write (last_block a.rest) before here) (subst (λ z. ReadAfter r.write z) one r.ordered)
