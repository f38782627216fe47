-- A path is that of a group where each of its pieces stands behind the one before.
use Rattle.sl_locks.specs.Ends.{behind}
use Rattle.sl_run.specs.LockNames.{doubled, group_path}
use Rattle.sl_run.specs.Lvm.{HeldLock, ends_lock, lock_process}
use Rattle.sl_trace.specs.Traces.{same_place}
use Rattle.sl_trace.specs.declared.effects.End.{End}
use Rattle.std.proofs.Common.{Bool, Bor, List, None, Option, Some, [], ap, cond, drop, false, length, refl, sym, take, true, ℕ, ◌++◌, ◌≡◌, ◌∙◌, ◌∷◌}
use Rattle.std.specs.List.{list_any}
use Rattle.std.specs.Prelude.{MatchOption, bytes_eq, codes, filter, not, option_and_then, ◌&&◌, ◌*◌, ◌+◌, ◌==◌, ◌||◌}

-- ---- a piece that is there, and one that is not

found_next : (c d : ℕ) (piece text : List ℕ) (b : Bool) → (d == c) ≡ b → (b && bytes_eq (take (length piece) text) piece) ≡ true
    → (bytes_eq (take (length piece) text) piece ≡ true → behind piece text ≡ Some (drop (length piece) text))
    → cond (d == c) (behind piece text) None ≡ Some (drop (length piece) text)
found_next c d piece text true is h more = ap (λ t. cond t (behind piece text) None) is ∙ more h
found_next c d piece text false is h more = absurd cc

pub found_behind : (piece text : List ℕ) → bytes_eq (take (length piece) text) piece ≡ true → behind piece text ≡ Some (drop (length piece) text)
found_behind [] text h = refl
found_behind (c ∷ piece) [] h = absurd cc
found_behind (c ∷ piece) (d ∷ text) h = found_next c d piece text (d == c) refl h (found_behind piece text)

missing_next : (c d : ℕ) (piece text : List ℕ) (b : Bool) → (d == c) ≡ b → (b && bytes_eq (take (length piece) text) piece) ≡ false
    → (bytes_eq (take (length piece) text) piece ≡ false → behind piece text ≡ None) → cond (d == c) (behind piece text) None ≡ None
missing_next c d piece text true is h more = ap (λ t. cond t (behind piece text) None) is ∙ more h
missing_next c d piece text false is h more = ap (λ t. cond t (behind piece text) None) is

pub missing_behind : (piece text : List ℕ) → bytes_eq (take (length piece) text) piece ≡ false → behind piece text ≡ None
missing_behind [] text h = absurd cc
missing_behind (c ∷ piece) [] h = refl
missing_behind (c ∷ piece) (d ∷ text) h = missing_next c d piece text (d == c) refl h (missing_behind piece text)

pub stripped : (piece text : List ℕ) (r : Option (Bor (List ℕ)))
    → MatchOption r (bytes_eq (take (length piece) text) piece ≡ false)
    (λ x. (bytes_eq (take (length piece) text) piece ≡ true) × (x.now ≡ drop (length piece) text) × (length x.now + length piece ≡ length text))
    → MatchOption r (behind piece text ≡ None) (λ rest. behind piece text ≡ Some rest.now)
stripped piece text None h = missing_behind piece text h
stripped piece text (Some r) h = found_behind piece text h.0 ∙ ap (λ t. Some t) (sym h.1)

-- ---- pieces one behind another

join_next : (b : Bool) (first : Option (List ℕ)) (more : List ℕ) → cond b (option_and_then (behind more) first) None ≡ option_and_then (behind more) (cond b first None)
join_next true first more = refl
join_next false first more = refl

pub behind_joined : (piece more text : List ℕ) → behind (piece ++ more) text ≡ option_and_then (behind more) (behind piece text)
behind_joined [] more text = refl
behind_joined (c ∷ piece) more [] = refl
behind_joined (c ∷ piece) more (d ∷ text) =
    ap (λ o. cond (d == c) o None) (behind_joined piece more text) ∙ join_next (d == c) (behind piece text) more

-- Whether what stands behind a piece is this text.
abbrev is_rest : Option (List ℕ) → List ℕ → Bool
is_rest None last = false
is_rest (Some rest) last = bytes_eq rest last

rest_next : (b : Bool) (first : Option (List ℕ)) (last : List ℕ) → (b && is_rest first last) ≡ is_rest (cond b first None) last
rest_next true first last = refl
rest_next false first last = refl

rest_is : (piece last text : List ℕ) → bytes_eq text (piece ++ last) ≡ is_rest (behind piece text) last
rest_is [] last text = refl
rest_is (c ∷ piece) last [] = refl
rest_is (c ∷ piece) last (d ∷ text) = ap (λ t. (d == c) && t) (rest_is piece last text) ∙ rest_next (d == c) (behind piece text) last

-- ---- the path of a group's areas

abbrev path_front : List ℕ → List ℕ
path_front group = codes "/dev/mapper/" ++ doubled group

path_rest : (group path : List ℕ) → bytes_eq path (group_path group) ≡ is_rest (option_and_then (behind (doubled group)) (behind (codes "/dev/mapper/") path)) (codes "-lvmlock")
path_rest group path =
    rest_is (path_front group) (codes "-lvmlock") path
    ∙ ap (λ o. is_rest o (codes "-lvmlock")) (behind_joined (codes "/dev/mapper/") (doubled group) path)

pub no_front : (group path : List ℕ) → behind (codes "/dev/mapper/") path ≡ None → false ≡ bytes_eq path (group_path group)
no_front group path h = sym (path_rest group path ∙ ap (λ o. is_rest (option_and_then (behind (doubled group)) o) (codes "-lvmlock")) h)

pub no_name : (group path rest : List ℕ) → behind (codes "/dev/mapper/") path ≡ Some rest → behind (doubled group) rest ≡ None → false ≡ bytes_eq path (group_path group)
no_name group path rest h none =
    sym (path_rest group path ∙ ap (λ o. is_rest (option_and_then (behind (doubled group)) o) (codes "-lvmlock")) h ∙ ap (λ o. is_rest o (codes "-lvmlock")) none)

pub whole_path : (group path rest last : List ℕ) → behind (codes "/dev/mapper/") path ≡ Some rest → behind (doubled group) rest ≡ Some last
    → bytes_eq last (codes "-lvmlock") ≡ bytes_eq path (group_path group)
whole_path group path rest last h more =
    sym (path_rest group path ∙ ap (λ o. is_rest (option_and_then (behind (doubled group)) o) (codes "-lvmlock")) h ∙ ap (λ o. is_rest o (codes "-lvmlock")) more)

-- ---- where lvmlockd's process ended nothing

ended_other : (area : ℕ) (h : HeldLock) (e : End) (ends : List End) (b : Bool) → (e.process == lock_process) ≡ b
    → (b || list_any (λ (x : End). x.process == lock_process) ends) ≡ false
    → (list_any (λ (x : End). x.process == lock_process) ends ≡ false → ends_lock area ends h.lock ≡ false) → ends_lock area (e ∷ ends) h.lock ≡ false
ended_other area h e ends true is none more = absurd cc
ended_other area h e ends false is none more =
    ap (λ b. (b && same_place e.path e.offset (group_path h.lock.group) (h.lock.number * area)) || ends_lock area ends h.lock) is ∙ more none

not_ended : (area : ℕ) (h : HeldLock) (ends : List End) → list_any (λ (e : End). e.process == lock_process) ends ≡ false → ends_lock area ends h.lock ≡ false
not_ended area h [] none = refl
not_ended area h (e ∷ ends) none = ended_other area h e ends (e.process == lock_process) refl none (not_ended area h ends)

pub none_ended : (area : ℕ) (ends : List End) (held : List HeldLock) → list_any (λ (e : End). e.process == lock_process) ends ≡ false
    → held ≡ filter (λ (h : HeldLock). not (ends_lock area ends h.lock)) held
none_ended area ends [] none = refl
none_ended area ends (h ∷ held) none =
    ap (λ hs. h ∷ hs) (none_ended area ends held none)
    ∙ sym (ap (λ b. cond (not b) (h ∷ filter (λ (x : HeldLock). not (ends_lock area ends x.lock)) held) (filter (λ (x : HeldLock). not (ends_lock area ends x.lock)) held)) (not_ended area h ends none))
