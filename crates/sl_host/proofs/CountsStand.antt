-- Counts over a host's members.
use Rattle.sl_host_state.specs.KeptState.{MemberState}
use Rattle.sl_host.proofs.PassNotes.{front_all, front_more}
use Rattle.sl_host.specs.BookQuestions.{leases_in, most_counted}
use Rattle.std.proofs.Common.{ap, arith, ◌∙◌}
use Rattle.std.proofs.lemmas.List.Sums.{fold-append}
use Rattle.std.specs.Prelude.{List, Some, [], length, min, slice_get, take, ℕ, ◌+◌, ◌∷◌, ◌≡◌}

-- One member further: no count is above the greatest.
pub counted_more : (ms : List MemberState) (k : ℕ) (m : MemberState) → slice_get ms k ≡ Some m
    → min (min (leases_in (take k ms)) most_counted + length m.leases) most_counted ≡ min (leases_in (take (k + 1) ms)) most_counted
counted_more ms k m at =
    let one : leases_in (take (k + 1) ms) ≡ leases_in (take k ms) + length m.leases =
    ap leases_in (front_more ms k m at) ∙ fold-append (λ n (s : MemberState). n + length s.leases) 0 (take k ms) (m ∷ []) in
    omega (arith, one)

pub counted_all : (ms : List MemberState) → min (leases_in (take (length ms) ms)) most_counted ≡ min (leases_in ms) most_counted
counted_all ms = ap (λ xs. min (leases_in xs) most_counted) (front_all ms)
