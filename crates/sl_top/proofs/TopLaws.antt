-- Fronts of a text, and what is put out of one.
use Rattle.sl_report.specs.OwedReports.{IsFrontOf}
use Rattle.sl_top.specs.Runs.{PutsOut}
use Rattle.sl_top.specs.declared.status.Status.TheVariants.{WriteFault}
use Rattle.sl_top.specs.declared.status.Status.{Status}
use Rattle.sl_io.specs.FaultCauses.{Rose}
use Rattle.std.proofs.Common.{List, Option, [], ap, append-nil, append_assoc, drop, inl, inr, refl, sym, take, ℕ, ◌++◌, ◌∙◌, ◌≡◌}
use Rattle.std.proofs.lemmas.List.{take-append-drop}
use Rattle.std.specs.Io.KnownBytes.{Appends}

-- ---- fronts

pub none_written : (xs ys : List ℕ) → xs ≡ [] → IsFrontOf xs ys
none_written xs ys empty = (ys, ap (λ v. v ++ ys) (sym empty))

pub same_front : (xs ys : List ℕ) → xs ≡ ys → IsFrontOf xs ys
same_front xs ys same = ([], sym same ∙ sym (append-nil xs))

front_take : (n : ℕ) (xs ys : List ℕ) → IsFrontOf xs ys → IsFrontOf (take n xs) ys
front_take n xs ys front =
    (drop n xs ++ front.0, front.1 ∙ ap (λ v. v ++ front.0) (sym (take-append-drop n xs)) ∙ append_assoc (take n xs) (drop n xs) front.0)

-- ---- what is put out

-- The sink failed.
pub broken_put : (taken now : Option (List ℕ)) (faults later n : ℕ) (out text : List ℕ) (whole : Status) → Appends taken now (take n out) → IsFrontOf out text → Rose faults later
    → PutsOut taken now faults later text whole WriteFault
broken_put taken now faults later n out text whole appends front rose =
    record { written = take n out; appends = appends; text_is = inr (front_take n out text front, inl refl); cause = λ e. rose }
