-- What was read, and what was told of it.
use Rattle.sl_area.specs.AreaSizes.{Sizes}
use Rattle.sl_area.specs.Sectors.{IsReadAt}
use Rattle.sl_direct.specs.Actions.{AreReadAt}
use Rattle.sl_direct.specs.Lines.{dump_lines, is_its_leader, leader_in_sector, leader_line, sector_line}
use Rattle.sl_direct.specs.HalfDone.{AreTold, HasActed, IsToldAt}
use Rattle.sl_direct.specs.declared.action.Action.TheVariants.{ReadLeader}
use Rattle.sl_direct.specs.declared.action.Directed.TheVariants.{Done, NotTheLeader}
use Rattle.sl_text.specs.Forms.{as_bytes}
use Rattle.sl_trace.specs.declared.command.ResourceArg.{ResourceArg}
use Rattle.std.proofs.Common.{Bool, List, None, Option, Some, [], ap, append_assoc, arith, false, length, refl, suc, subst, sym, true, zero, ℕ, ◌*◌, ◌++◌, ◌+◌, ◌∙◌, ◌∷◌, ◌≡◌}
use Rattle.std.proofs.lemmas.List.{append-nil, flat_map_more, length-append}
use Rattle.std.specs.Io.KnownBytes.{Keeps}
use Rattle.std.specs.Prelude.{◌&&◌}

-- ---- a leader

pub and_nothing : (b : Bool) → (b && true) ≡ b
and_nothing true = refl
and_nothing false = refl

pub one_line : (old out line : List ℕ) → old ≡ [] → out ≡ old ++ line ++ 10 ∷ [] → out ≡ as_bytes (line ∷ [])
one_line old out line none is = is ∙ ap (λ xs. xs ++ line ++ 10 ∷ []) none ∙ sym (append-nil (line ++ 10 ∷ []))

-- The sector was told, and is of the resource's leader.
pub leader_told : (r : ResourceArg) (g : Sizes) (a b : Option (List ℕ)) (at : ℕ) (sector old out : List ℕ) (right : Bool) → Keeps a b → length sector ≡ g.sector → at ≡ r.offset → IsReadAt a at sector → old ≡ []
    → out ≡ old ++ leader_line r sector ++ 10 ∷ [] → right ≡ true → right ≡ is_its_leader r (leader_in_sector sector) → HasActed (ReadLeader r g) a b out Done
leader_told r g a b at sector old out right kept long here read none told test is = (
  leader_line r sector ∷ [],
  one_line old out (leader_line r sector) none told,
  record { kept = kept; sectors = sector ∷ []; read = (long, subst (λ (k : ℕ). IsReadAt a k sector) here read, tt); told = refl; ended = (refl, and_nothing (is_its_leader r (leader_in_sector sector)) ∙ sym is ∙ test) },
)

-- It was told, and is not.
pub other_told : (r : ResourceArg) (g : Sizes) (a b : Option (List ℕ)) (at : ℕ) (sector old out : List ℕ) (right : Bool) → Keeps a b → length sector ≡ g.sector → at ≡ r.offset → IsReadAt a at sector → old ≡ []
    → out ≡ old ++ leader_line r sector ++ 10 ∷ [] → right ≡ false → right ≡ is_its_leader r (leader_in_sector sector) → HasActed (ReadLeader r g) a b out NotTheLeader
other_told r g a b at sector old out right kept long here read none told test is = (
  leader_line r sector ∷ [],
  one_line old out (leader_line r sector) none told,
  record { kept = kept; sectors = sector ∷ []; read = (long, subst (λ (k : ℕ). IsReadAt a k sector) here read, tt); told = refl; ended = (refl, and_nothing (is_its_leader r (leader_in_sector sector)) ∙ sym is ∙ test) },
)

-- ---- sectors, one behind another

-- A read of what stayed is one of what was.
pub read_before : (a b : Option (List ℕ)) (at : ℕ) (sector : List ℕ) → Keeps a b → IsReadAt b at sector → IsReadAt a at sector
read_before None b at sector kept read = tt
read_before (Some x) None at sector kept read = absurd kept
read_before (Some x) (Some y) at sector kept read = subst (λ (c : List ℕ). IsReadAt (Some c) at sector) kept read

one_further : (size at n : ℕ) → (at + size) + size * n ≡ at + size * suc n
one_further size at n = grind (arith)

none_further : (size at : ℕ) → at + size * zero ≡ at
none_further size at = omega arith

read_more : (a : Option (List ℕ)) (size at : ℕ) (ss : List (List ℕ)) (s : List ℕ) → AreReadAt a size at ss → length s ≡ size → IsReadAt a (at + size * length ss) s
    → AreReadAt a size at (ss ++ s ∷ [])
read_more a size at [] s read long next = (long, subst (λ (k : ℕ). IsReadAt a k s) (none_further size at) next, tt)
read_more a size at (x ∷ xs) s read long next =
    (read.0, read.1, read_more a size (at + size) xs s read.2 long (subst (λ (k : ℕ). IsReadAt a k s) (sym (one_further size at (length xs))) next))

lines_more : (size at : ℕ) (ss : List (List ℕ)) (s : List ℕ) → dump_lines size at (ss ++ s ∷ []) ≡ dump_lines size at ss ++ sector_line (at + size * length ss) s ∷ []
lines_more size at [] s = ap (λ (k : ℕ). sector_line k s ∷ []) (sym (none_further size at))
lines_more size at (x ∷ xs) s =
    ap (λ ls. sector_line at x ∷ ls)
    (lines_more size (at + size) xs s ∙ ap (λ (k : ℕ). dump_lines size (at + size) xs ++ sector_line k s ∷ []) (one_further size at (length xs)))

-- None yet.
pub none_told : (a : Option (List ℕ)) (size offset : ℕ) (out : List ℕ) → out ≡ [] → AreTold a size offset 0 out
none_told a size offset out none = record { sectors = []; long = refl; read = tt; told = none }

-- One more.
pub one_told : (a b : Option (List ℕ)) (size offset k at : ℕ) (out later : List ℕ) → Keeps a b → at ≡ offset + size * k → AreTold a size offset k out → IsToldAt b size at out later
    → AreTold a size offset (k + 1) later
one_told a b size offset k at out later kept place all next =
    let here : at ≡ offset + size * length all.sectors = place ∙ ap (λ (n : ℕ). offset + size * n) (sym all.long) in
    let read : IsReadAt a (offset + size * length all.sectors) next.sector = subst (λ (n : ℕ). IsReadAt a n next.sector) here (read_before a b at next.sector kept next.read) in
    let line : List ℕ = sector_line (offset + size * length all.sectors) next.sector in
    record {
      sectors = all.sectors ++ next.sector ∷ [];
      long = length-append all.sectors (next.sector ∷ []) ∙ ap (λ (n : ℕ). n + 1) all.long;
      read = read_more a size offset all.sectors next.sector all.read next.long read;
      told = next.told ∙ ap (λ (n : ℕ). out ++ sector_line n next.sector ++ 10 ∷ []) here ∙ append_assoc out line (10 ∷ [])
          ∙ ap (λ xs. xs ++ (line ++ 10 ∷ [])) all.told ∙ flat_map_more (λ l. l ++ 10 ∷ []) [] (dump_lines size offset all.sectors) line
          ∙ sym (ap as_bytes (lines_more size offset all.sectors next.sector));
    }
