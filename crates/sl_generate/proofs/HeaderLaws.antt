-- A header's lines, one behind the other.
use Rattle.sl_generate.specs.HeaderLines.{gen_session}
use Rattle.sl_report.specs.GeneratedSchedules.{gen_host_name, gen_path, gen_resource}
use Rattle.sl_run.specs.declared.header.ResourceLine.{ResourceLine}
use Rattle.sl_run.specs.declared.header.SessionLine.{SessionLine}
use Rattle.std.proofs.Common.{List, [], ap, ap₂, arith, map, sym, ℕ, ◌*◌, ◌++◌, ◌+◌, ◌∙◌, ◌∷◌, ◌≡◌}
use Rattle.std.proofs.lemmas.List.FromFn.{map-range_with_len_more}
use Rattle.std.specs.List.{range_with_len}
use Rattle.std.specs.Prelude.{codes, decimal}

next_of : (n : ℕ) → 1 + n ≡ n + 1
next_of n = omega arith

pub one_resource : (n : ℕ) (lines now : List ResourceLine) (lockspace name path : List ℕ) → lines ≡ map gen_resource (range_with_len 1 n) → lockspace ≡ codes "ls"
    → name ≡ codes "r" ++ decimal (n + 1) → path ≡ gen_path
    → now ≡ lines ++ record { lockspace = lockspace; name = name; path = path; offset = (n + 1) * 1048576 } ∷ [] → now ≡ map gen_resource (range_with_len 1 (n + 1))
one_resource n lines now lockspace name path is one two three pushed =
    pushed
    ∙ ap₂ (λ ls (l : ResourceLine). ls ++ l ∷ []) is
    (ap (λ x. record { lockspace = x; name = name; path = path; offset = (n + 1) * 1048576 }) one
    ∙ ap (λ x. record { lockspace = codes "ls"; name = x; path = path; offset = (n + 1) * 1048576 }) two
    ∙ ap (λ x. record { lockspace = codes "ls"; name = codes "r" ++ decimal (n + 1); path = x; offset = (n + 1) * 1048576 }) three)
    ∙ sym (map-range_with_len_more gen_resource 1 n (n + 1) (next_of n))

pub one_session : (n : ℕ) (lines now : List SessionLine) (lockspace name : List ℕ) → lines ≡ map gen_session (range_with_len 1 n) → lockspace ≡ codes "ls" → name ≡ gen_host_name (n + 1)
    → now ≡ lines ++ record { machine = n + 1; lockspace = lockspace; id = n + 1; name = name } ∷ [] → now ≡ map gen_session (range_with_len 1 (n + 1))
one_session n lines now lockspace name is one two pushed =
    pushed
    ∙ ap₂ (λ ls (l : SessionLine). ls ++ l ∷ []) is
    (ap (λ x. record { machine = n + 1; lockspace = x; id = n + 1; name = name }) one ∙ ap (λ x. record { machine = n + 1; lockspace = codes "ls"; id = n + 1; name = x }) two)
    ∙ sym (map-range_with_len_more gen_session 1 n (n + 1) (next_of n))
