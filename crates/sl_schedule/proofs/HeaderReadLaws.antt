-- A header line that was read, as the definitions see it.
use Rattle.sl_schedule.specs.HeaderReads.{header_seen, result_seen}
use Rattle.sl_schedule.specs.declared.header_line.HeaderLine.{HeaderLine}
use Rattle.std.proofs.Common.{Err, Ok, Option, Result, refl, subst, sym, ℕ, ◌≡◌}
use Rattle.std.specs.Option.{option_map}
use Rattle.std.specs.Prelude.{IfOk, IfSome}
use Rattle.std.specs.Result.{result_ok}

pub seen_made : (r : Result HeaderLine ℕ) → option_map header_seen (result_ok r) ≡ result_ok (result_seen r)
seen_made (Ok l) = refl
seen_made (Err column) = refl

-- What holds of the line that was read.
pub ok_is_some : (r : Result HeaderLine ℕ) (o : Option HeaderLine) (P : HeaderLine → Type 0) → o ≡ result_ok r → IfOk r P → IfSome o P
ok_is_some (Ok l) o P e h = subst (λ (o : Option HeaderLine). IfSome o P) (sym e) h
ok_is_some (Err column) o P e h = subst (λ (o : Option HeaderLine). IfSome o P) (sym e) tt
