-- What stands on the disks, as sectors are kept and written.
use Rattle.sl_disks.proofs.InitialLaws.{initial_sized}
use Rattle.sl_disks.proofs.TableLaws.{stands_first, stands_kept, stands_nowhere, stands_set, stands_there}
use Rattle.sl_disks.specs.Disks.{IsDisks, TableState, first_at, first_disks, first_table, is_sized, is_table, kept_at, kept_on, path_at, path_if, sectors_on, stands_on, table_with, tables_with}
use Rattle.sl_world_state.specs.Changes.{write_sector}
use Rattle.sl_world_state.specs.KeptWorld.{sector_in}
use Rattle.sl_run.specs.Headers.{IsHeader}
use Rattle.sl_run.specs.declared.header.Disk.{Disk}
use Rattle.sl_run.specs.declared.header.Header.{Header}
use Rattle.sl_words.proofs.CaseLaws.{none_some, some_value}
use Rattle.sl_words.proofs.WordLaws.{and_true}
use Rattle.std.proofs.Common.{ap, ap₂, arith, refl, sym, ◌∙◌}
use Rattle.std.proofs.lemmas.Bool.Decides.{Decides-eqb}
use Rattle.std.proofs.lemmas.List.{map-set}
use Rattle.std.proofs.lemmas.Option.{get_or_from_slice_get, slice_get-map}
use Rattle.std.proofs.Math.Seq.{map-set_same}
use Rattle.std.specs.List.{list_all, range_with_len, slice_set}
use Rattle.std.specs.Prelude.{Bool, List, None, Option, Some, length, map, option_and_then, option_map, replicate, slice_get, suc, true, unwrap_or, zero, [], ℕ, ◌*◌, ◌+◌, ◌∷◌, ◌≡◌}

-- ---- what a sector has

slot_some : (o : Option (Option (List ℕ))) (b : List ℕ) → option_and_then (λ x. x) o ≡ Some b → o ≡ Some (Some b)
slot_some None b h = absurd (none_some b h)
slot_some (Some None) b h = absurd (none_some b h)
slot_some (Some (Some c)) b h = ap Some h

kept_by : (h : Header) (n : ℕ) (o : Option TableState) (b : List ℕ) → option_and_then (λ t. kept_at t n) o ≡ Some b
    → unwrap_or (option_and_then (λ s. slice_get s n) (option_map (stands_on h) o)) [] ≡ b
kept_by h n None b is = absurd (none_some b is)
kept_by h n (Some t) b is = ap (λ o. unwrap_or o []) (stands_there h t.path 0 n t.slots (Some b) (slot_some (slice_get t.slots n) b is))

-- A sector that is kept.
pub sector_kept : (h : Header) (ts : List TableState) (d n : ℕ) (b : List ℕ) → kept_on ts d n ≡ Some b → sector_in (map (stands_on h) ts) d n ≡ b
sector_kept h ts d n b is =
    ap (λ o. unwrap_or (option_and_then (λ s. slice_get s n) o) []) (slice_get-map (stands_on h) ts d) ∙ kept_by h n (slice_get ts d) b is

slot_path : (path : List ℕ) (o : Option (Option (List ℕ))) (p : List ℕ)
    → path_if path o ≡ Some p → option_and_then (λ x. x) o ≡ None → (o ≡ Some None) × (path ≡ p)
slot_path path None p there none = absurd (none_some p there)
slot_path path (Some None) p there none = (refl, some_value path p there)
slot_path path (Some (Some b)) p there none = absurd (none_some b (sym none))

from_zero : (n : ℕ) → 0 + n ≡ n
from_zero n = omega arith

first_by : (h : Header) (n : ℕ) (o : Option TableState) (p : List ℕ) → option_and_then (λ t. path_if t.path (slice_get t.slots n)) o ≡ Some p
    → option_and_then (λ t. kept_at t n) o ≡ None → unwrap_or (option_and_then (λ s. slice_get s n) (option_map (stands_on h) o)) [] ≡ first_at h p n
first_by h n None p there none = absurd (none_some p there)
first_by h n (Some t) p there none =
    let is = slot_path t.path (slice_get t.slots n) p there none in
    ap (λ o. unwrap_or o []) (stands_there h t.path 0 n t.slots None is.0) ∙ ap₂ (λ q m. first_at h q m) is.1 (from_zero n)

-- One that nobody touched.
pub sector_first : (h : Header) (ts : List TableState) (d n : ℕ) (p : List ℕ) → path_at ts d n ≡ Some p → kept_on ts d n ≡ None
    → sector_in (map (stands_on h) ts) d n ≡ first_at h p n
sector_first h ts d n p there none =
    ap (λ o. unwrap_or (option_and_then (λ s. slice_get s n) o) []) (slice_get-map (stands_on h) ts d) ∙ first_by h n (slice_get ts d) p there none

slot_nowhere : (path : List ℕ) (o : Option (Option (List ℕ))) → path_if path o ≡ None → o ≡ None
slot_nowhere path None none = refl
slot_nowhere path (Some x) none = absurd (none_some path (sym none))

nowhere_by : (h : Header) (n : ℕ) (o : Option TableState) → option_and_then (λ t. path_if t.path (slice_get t.slots n)) o ≡ None
    → unwrap_or (option_and_then (λ s. slice_get s n) (option_map (stands_on h) o)) [] ≡ []
nowhere_by h n None none = refl
nowhere_by h n (Some t) none = ap (λ o. unwrap_or o []) (stands_nowhere h t.path 0 n t.slots (slot_nowhere t.path (slice_get t.slots n) none))

-- One that is on no disk.
pub sector_nowhere : (h : Header) (ts : List TableState) (d n : ℕ) → path_at ts d n ≡ None → sector_in (map (stands_on h) ts) d n ≡ []
sector_nowhere h ts d n none =
    ap (λ o. unwrap_or (option_and_then (λ s. slice_get s n) o) []) (slice_get-map (stands_on h) ts d) ∙ nowhere_by h n (slice_get ts d) none

-- ---- filling and writing

same_by : (h : Header) (ts : List TableState) (d n : ℕ) (p : List ℕ) (o : Option TableState) → slice_get ts d ≡ o
    → option_and_then (λ t. path_if t.path (slice_get t.slots n)) o ≡ Some p
    → option_and_then (λ t. kept_at t n) o ≡ None
    → map (stands_on h) (elim o as (λ x. List TableState) [ None ↦ ts | Some t ↦ slice_set ts d (table_with n (first_at h p n) t) ]) ≡ map (stands_on h) ts
same_by h ts d n p None at there none = absurd (none_some p there)
same_by h ts d n p (Some t) at there none =
    let is = slot_path t.path (slice_get t.slots n) p there none in
    map-set_same (stands_on h) ts d (table_with n (first_at h p n) t) t
    (ap₂ (λ q m. stands_on h (table_with n (first_at h q m) t)) (sym is.1) (sym (from_zero n))
    ∙ stands_kept h t.path 0 n t.slots is.0
    ∙ ap (stands_on h) (sym (get_or_from_slice_get ts d t t at)))

-- A touched sector is as it was.
pub touched_same : (h : Header) (ts : List TableState) (d n : ℕ) (p : List ℕ) → path_at ts d n ≡ Some p → kept_on ts d n ≡ None
    → map (stands_on h) (tables_with d n (first_at h p n) ts) ≡ map (stands_on h) ts
touched_same h ts d n p there none = same_by h ts d n p (slice_get ts d) refl there none

written_by : (h : Header) (ts : List TableState) (d n : ℕ) (b : List ℕ) (o : Option TableState)
    → map (stands_on h) (elim o as (λ x. List TableState) [ None ↦ ts | Some t ↦ slice_set ts d (table_with n b t) ])
    ≡ elim (option_map (stands_on h) o) as (λ x. List (List (List ℕ))) [
      | None ↦ map (stands_on h) ts
      | Some sectors ↦ slice_set (map (stands_on h) ts) d (slice_set sectors n b)
    ]
written_by h ts d n b None = refl
written_by h ts d n b (Some t) =
    map-set (stands_on h) ts d (table_with n b t) ∙ ap (slice_set (map (stands_on h) ts) d) (stands_set h t.path 0 n t.slots b)

-- A sector is written.
pub written : (h : Header) (ts : List TableState) (d n : ℕ) (b : List ℕ)
    → map (stands_on h) (tables_with d n b ts) ≡ write_sector (record { disk = d; sector = n }) b (map (stands_on h) ts)
written h ts d n b =
    written_by h ts d n b (slice_get ts d)
    ∙ ap (λ o. elim o as (λ x. List (List (List ℕ))) [
      | None ↦ map (stands_on h) ts
      | Some sectors ↦ slice_set (map (stands_on h) ts) d (slice_set sectors n b)
    ]) (sym (slice_get-map (stands_on h) ts d))

-- ---- sizes

all_set : {A : Type 0} (p : A → Bool) (xs : List A) (i : ℕ) (a : A) → list_all p xs ≡ true → p a ≡ true → list_all p (slice_set xs i a) ≡ true
all_set p [] i a h k = h
all_set p (x ∷ xs) zero a h k = let both = and_true (p x) (list_all p xs) h in rw k both.1
all_set p (x ∷ xs) (suc i) a h k = let both = and_true (p x) (list_all p xs) h in rw both.0 (all_set p xs i a both.1 k)

all_at : {A : Type 0} (p : A → Bool) (xs : List A) (i : ℕ) (a : A) → list_all p xs ≡ true → slice_get xs i ≡ Some a → p a ≡ true
all_at p [] i a h at = absurd (none_some a at)
all_at p (x ∷ xs) zero a h at = ap p (sym (some_value x a at)) ∙ (and_true (p x) (list_all p xs) h).0
all_at p (x ∷ xs) (suc i) a h at = all_at p xs i a (and_true (p x) (list_all p xs) h).1 at

sized_by : (size n : ℕ) (ts : List TableState) (d : ℕ) (b : List ℕ) (o : Option TableState) → slice_get ts d ≡ o → list_all (is_table size) ts ≡ true
    → option_and_then (λ t. kept_at t n) o ≡ Some b → length b ≡ size
sized_by size n ts d b None at all is = absurd (none_some b is)
sized_by size n ts d b (Some t) at all is =
    let table : is_table size t ≡ true = all_at (is_table size) ts d t all at in
    let slot : is_sized size (Some b) ≡ true = all_at (is_sized size) t.slots n (Some b) table (slot_some (slice_get t.slots n) b is) in
    (Decides-eqb (length b) size).0 slot

-- What is kept has a sector's size.
pub kept_sized : (size : ℕ) (ts : List TableState) (d n : ℕ) (b : List ℕ) → list_all (is_table size) ts ≡ true → kept_on ts d n ≡ Some b → length b ≡ size
kept_sized size ts d n b all is = sized_by size n ts d b (slice_get ts d) refl all is

-- What stands there at first has it too.
pub first_sized : (h : Header) (path : List ℕ) (n : ℕ) → IsHeader h → length (first_at h path n) ≡ h.geometry.sector
unfolding first_at
first_sized h path n ok = initial_sized h path (n * h.geometry.sector) ok

with_by : (size n : ℕ) (ts : List TableState) (d : ℕ) (b : List ℕ) (o : Option TableState) → slice_get ts d ≡ o → list_all (is_table size) ts ≡ true → length b ≡ size
    → list_all (is_table size) (elim o as (λ x. List TableState) [ None ↦ ts | Some t ↦ slice_set ts d (table_with n b t) ]) ≡ true
with_by size n ts d b None at all is = all
with_by size n ts d b (Some t) at all is =
    all_set (is_table size) ts d (table_with n b t) all
    (all_set (is_sized size) t.slots n (Some b) (all_at (is_table size) ts d t all at) ((Decides-eqb (length b) size).1 is))

-- Disks stay disks.
pub disks_stay : (h : Header) (ts : List TableState) (zeros : List ℕ) (d n : ℕ) (b : List ℕ) → IsDisks h ts zeros → length b ≡ h.geometry.sector
    → IsDisks h (tables_with d n b ts) zeros
disks_stay h ts zeros d n b ok is =
    record { header = ok.header; sized = with_by h.geometry.sector n ts d b (slice_get ts d) refl ok.sized is; zeros_are = ok.zeros_are }

-- ---- at moment 0

stands_first_on : (h : Header) (ds : List Disk)
    → map (stands_on h) (map (first_table h) ds) ≡ map (λ d. map (first_at h d.path) (range_with_len 0 (sectors_on h d))) ds
stands_first_on h [] = refl
stands_first_on h (d ∷ ds) = ap₂ (λ x xs. x ∷ xs) (stands_first h d.path 0 (sectors_on h d)) (stands_first_on h ds)

sized_none : (size n : ℕ) → list_all (is_sized size) (replicate n None) ≡ true
sized_none size zero = refl
sized_none size (suc n) = sized_none size n

sized_first : (h : Header) (ds : List Disk) → list_all (is_table h.geometry.sector) (map (first_table h) ds) ≡ true
sized_first h [] = refl
sized_first h (d ∷ ds) = rw (sized_none h.geometry.sector (sectors_on h d)) (sized_first h ds)

-- Untouched tables are the first disks.
pub first_stand : (h : Header) → record { header = h; sectors = map (stands_on h) (map (first_table h) h.disks) } ≡ first_disks h
first_stand h = ap (λ (s : List (List (List ℕ))). record { header = h; sectors = s }) (stands_first_on h h.disks)

pub first_are_disks : (h : Header) (zeros : List ℕ) → IsHeader h → zeros ≡ replicate h.geometry.sector 0 → IsDisks h (map (first_table h) h.disks) zeros
first_are_disks h zeros ok is = record { header = ok; sized = sized_first h h.disks; zeros_are = is }
