-- The lines of a header are read as the header, by computation.
use Rattle.sl_generate.specs.HeaderLines.{HeadersAreRead, header_lines}
use Rattle.sl_report.specs.GeneratedSchedules.{gen_header}
use Rattle.sl_report.specs.Languages.{language_of}
use Rattle.sl_report.specs.HeaderLines.{header_forms, header_of}
use Rattle.sl_report.specs.HeaderRefusals.{header_tests}
use Rattle.sl_report.specs.Schedules.{Header_read, numbered_lines, read_header}
use Rattle.sl_run.specs.Worlds.{Program}
use Rattle.sl_text.specs.Forms.{as_bytes}
use Rattle.std.specs.Fmt.{digits}
use Rattle.std.proofs.Common.{Bool, [], arith, false, refl, suc, true, zero, ℕ, ◌≡◌, ◌≤◌}

abbrev IsRead : Program → ℕ → Bool → Type 0
IsRead p hosts paired = read_header (language_of p) [] 1 (numbered_lines (as_bytes (header_lines hosts paired))) ≡ Header_read (gen_header hosts paired) []

read_1 : (p : Program) (paired : Bool) → IsRead p 1 paired
unfolding digits header_forms header_of header_tests
read_1 p true = refl
read_1 p false = refl

read_2 : (p : Program) (paired : Bool) → IsRead p 2 paired
unfolding digits header_forms header_of header_tests
read_2 p true = refl
read_2 p false = refl

read_3 : (p : Program) (paired : Bool) → IsRead p 3 paired
unfolding digits header_forms header_of header_tests
read_3 p true = refl
read_3 p false = refl

read_4 : (p : Program) (paired : Bool) → IsRead p 4 paired
unfolding digits header_forms header_of header_tests
read_4 p true = refl
read_4 p false = refl

read_5 : (p : Program) (paired : Bool) → IsRead p 5 paired
unfolding digits header_forms header_of header_tests
read_5 p true = refl
read_5 p false = refl

read_6 : (p : Program) (paired : Bool) → IsRead p 6 paired
unfolding digits header_forms header_of header_tests
read_6 p true = refl
read_6 p false = refl

read_7 : (p : Program) (paired : Bool) → IsRead p 7 paired
unfolding digits header_forms header_of header_tests
read_7 p true = refl
read_7 p false = refl

read_8 : (p : Program) (paired : Bool) → IsRead p 8 paired
unfolding digits header_forms header_of header_tests
read_8 p true = refl
read_8 p false = refl

read_9 : (p : Program) (paired : Bool) → IsRead p 9 paired
unfolding digits header_forms header_of header_tests
read_9 p true = refl
read_9 p false = refl

read_10 : (p : Program) (paired : Bool) → IsRead p 10 paired
unfolding digits header_forms header_of header_tests
read_10 p true = refl
read_10 p false = refl

read_11 : (p : Program) (paired : Bool) → IsRead p 11 paired
unfolding digits header_forms header_of header_tests
read_11 p true = refl
read_11 p false = refl

read_12 : (p : Program) (paired : Bool) → IsRead p 12 paired
unfolding digits header_forms header_of header_tests
read_12 p true = refl
read_12 p false = refl

read_13 : (p : Program) (paired : Bool) → IsRead p 13 paired
unfolding digits header_forms header_of header_tests
read_13 p true = refl
read_13 p false = refl

read_14 : (p : Program) (paired : Bool) → IsRead p 14 paired
unfolding digits header_forms header_of header_tests
read_14 p true = refl
read_14 p false = refl

read_15 : (p : Program) (paired : Bool) → IsRead p 15 paired
unfolding digits header_forms header_of header_tests
read_15 p true = refl
read_15 p false = refl

read_16 : (p : Program) (paired : Bool) → IsRead p 16 paired
unfolding digits header_forms header_of header_tests
read_16 p true = refl
read_16 p false = refl

pub headers_are_read : HeadersAreRead
headers_are_read p zero paired low high = absurd (none low)
  where
    none : 1 ≤ 0 → ⊥
    none h = absurd (omega (arith, h))
headers_are_read p (suc zero) paired low high = read_1 p paired
headers_are_read p (suc (suc zero)) paired low high = read_2 p paired
headers_are_read p (suc (suc (suc zero))) paired low high = read_3 p paired
headers_are_read p (suc (suc (suc (suc zero)))) paired low high = read_4 p paired
headers_are_read p (suc (suc (suc (suc (suc zero))))) paired low high = read_5 p paired
headers_are_read p (suc (suc (suc (suc (suc (suc zero)))))) paired low high = read_6 p paired
headers_are_read p (suc (suc (suc (suc (suc (suc (suc zero))))))) paired low high = read_7 p paired
headers_are_read p (suc (suc (suc (suc (suc (suc (suc (suc zero)))))))) paired low high = read_8 p paired
headers_are_read p (suc (suc (suc (suc (suc (suc (suc (suc (suc zero))))))))) paired low high = read_9 p paired
headers_are_read p (suc (suc (suc (suc (suc (suc (suc (suc (suc (suc zero)))))))))) paired low high = read_10 p paired
headers_are_read p (suc (suc (suc (suc (suc (suc (suc (suc (suc (suc (suc zero))))))))))) paired low high = read_11 p paired
headers_are_read p (suc (suc (suc (suc (suc (suc (suc (suc (suc (suc (suc (suc zero)))))))))))) paired low high = read_12 p paired
headers_are_read p (suc (suc (suc (suc (suc (suc (suc (suc (suc (suc (suc (suc (suc zero))))))))))))) paired low high = read_13 p paired
headers_are_read p (suc (suc (suc (suc (suc (suc (suc (suc (suc (suc (suc (suc (suc (suc zero)))))))))))))) paired low high = read_14 p paired
headers_are_read p (suc (suc (suc (suc (suc (suc (suc (suc (suc (suc (suc (suc (suc (suc (suc zero))))))))))))))) paired low high = read_15 p paired
headers_are_read p (suc (suc (suc (suc (suc (suc (suc (suc (suc (suc (suc (suc (suc (suc (suc (suc zero)))))))))))))))) paired low high = read_16 p paired
headers_are_read p (suc (suc (suc (suc (suc (suc (suc (suc (suc (suc (suc (suc (suc (suc (suc (suc (suc n))))))))))))))))) paired low high = absurd (too_many n high)
  where
    too_many : (n : ℕ) → suc (suc (suc (suc (suc (suc (suc (suc (suc (suc (suc (suc (suc (suc (suc (suc (suc n)))))))))))))))) ≤ 16 → ⊥
    too_many n h = absurd (omega (arith, h))
