-- The lines of each header are read as it, by computation; and what else is computed of them.
use Rattle.sl_report.specs.HeaderLines.{header_forms, header_of}
use Rattle.sl_report.specs.HeaderRefusals.{header_tests}
use Rattle.sl_report.specs.Languages.{whole_language}
use Rattle.sl_report.specs.Schedules.{Header_read, numbered_lines, read_header}
use Rattle.sl_story.specs.StoryHeaders.{StoryHeadersAreRead, fixed_lines, number_lines, story_header, story_lines}
use Rattle.sl_text.specs.Forms.{as_bytes, is_free_of}
use Rattle.std.proofs.Common.{Bool, [], arith, false, length, refl, suc, true, zero, ℕ, ◌*◌, ◌+◌, ◌≡◌, ◌≤◌}
use Rattle.std.specs.Fmt.{digits}
use Rattle.std.specs.List.{list_all}
use Rattle.std.specs.Prelude.{nat_le}

-- They are read to the end, have no line feeds, are so many, and have neither more bytes than this nor fewer than lines.
abbrev pub IsStory : ℕ → Bool → Type 0
IsStory hosts paired =
    (read_header whole_language [] 1 (numbered_lines (as_bytes (story_lines hosts paired))) ≡ Header_read (story_header hosts paired) [])
    × (list_all (is_free_of 10) (story_lines hosts paired) ≡ true) × (length (story_lines hosts paired) ≡ 17 + 2 * hosts)
    × (nat_le (length (as_bytes (story_lines hosts paired))) 10000 ≡ true) × (nat_le (17 + 2 * hosts) (length (as_bytes (story_lines hosts paired))) ≡ true)

story_1 : (paired : Bool) → IsStory 1 paired
unfolding digits fixed_lines header_forms header_of header_tests number_lines story_header story_lines
story_1 true = (refl, refl, refl, refl, refl)
story_1 false = (refl, refl, refl, refl, refl)

story_2 : (paired : Bool) → IsStory 2 paired
unfolding digits fixed_lines header_forms header_of header_tests number_lines story_header story_lines
story_2 true = (refl, refl, refl, refl, refl)
story_2 false = (refl, refl, refl, refl, refl)

story_3 : (paired : Bool) → IsStory 3 paired
unfolding digits fixed_lines header_forms header_of header_tests number_lines story_header story_lines
story_3 true = (refl, refl, refl, refl, refl)
story_3 false = (refl, refl, refl, refl, refl)

story_4 : (paired : Bool) → IsStory 4 paired
unfolding digits fixed_lines header_forms header_of header_tests number_lines story_header story_lines
story_4 true = (refl, refl, refl, refl, refl)
story_4 false = (refl, refl, refl, refl, refl)

story_5 : (paired : Bool) → IsStory 5 paired
unfolding digits fixed_lines header_forms header_of header_tests number_lines story_header story_lines
story_5 true = (refl, refl, refl, refl, refl)
story_5 false = (refl, refl, refl, refl, refl)

story_6 : (paired : Bool) → IsStory 6 paired
unfolding digits fixed_lines header_forms header_of header_tests number_lines story_header story_lines
story_6 true = (refl, refl, refl, refl, refl)
story_6 false = (refl, refl, refl, refl, refl)

story_7 : (paired : Bool) → IsStory 7 paired
unfolding digits fixed_lines header_forms header_of header_tests number_lines story_header story_lines
story_7 true = (refl, refl, refl, refl, refl)
story_7 false = (refl, refl, refl, refl, refl)

story_8 : (paired : Bool) → IsStory 8 paired
unfolding digits fixed_lines header_forms header_of header_tests number_lines story_header story_lines
story_8 true = (refl, refl, refl, refl, refl)
story_8 false = (refl, refl, refl, refl, refl)

story_9 : (paired : Bool) → IsStory 9 paired
unfolding digits fixed_lines header_forms header_of header_tests number_lines story_header story_lines
story_9 true = (refl, refl, refl, refl, refl)
story_9 false = (refl, refl, refl, refl, refl)

story_10 : (paired : Bool) → IsStory 10 paired
unfolding digits fixed_lines header_forms header_of header_tests number_lines story_header story_lines
story_10 true = (refl, refl, refl, refl, refl)
story_10 false = (refl, refl, refl, refl, refl)

story_11 : (paired : Bool) → IsStory 11 paired
unfolding digits fixed_lines header_forms header_of header_tests number_lines story_header story_lines
story_11 true = (refl, refl, refl, refl, refl)
story_11 false = (refl, refl, refl, refl, refl)

story_12 : (paired : Bool) → IsStory 12 paired
unfolding digits fixed_lines header_forms header_of header_tests number_lines story_header story_lines
story_12 true = (refl, refl, refl, refl, refl)
story_12 false = (refl, refl, refl, refl, refl)

story_13 : (paired : Bool) → IsStory 13 paired
unfolding digits fixed_lines header_forms header_of header_tests number_lines story_header story_lines
story_13 true = (refl, refl, refl, refl, refl)
story_13 false = (refl, refl, refl, refl, refl)

story_14 : (paired : Bool) → IsStory 14 paired
unfolding digits fixed_lines header_forms header_of header_tests number_lines story_header story_lines
story_14 true = (refl, refl, refl, refl, refl)
story_14 false = (refl, refl, refl, refl, refl)

story_15 : (paired : Bool) → IsStory 15 paired
unfolding digits fixed_lines header_forms header_of header_tests number_lines story_header story_lines
story_15 true = (refl, refl, refl, refl, refl)
story_15 false = (refl, refl, refl, refl, refl)

story_16 : (paired : Bool) → IsStory 16 paired
unfolding digits fixed_lines header_forms header_of header_tests number_lines story_header story_lines
story_16 true = (refl, refl, refl, refl, refl)
story_16 false = (refl, refl, refl, refl, refl)

pub are_stories : (hosts : ℕ) (paired : Bool) → 1 ≤ hosts → hosts ≤ 16 → IsStory hosts paired
are_stories zero paired low high = absurd (none low)
  where
    none : 1 ≤ 0 → ⊥
    none h = absurd (omega (arith, h))
are_stories (suc zero) paired low high = story_1 paired
are_stories (suc (suc zero)) paired low high = story_2 paired
are_stories (suc (suc (suc zero))) paired low high = story_3 paired
are_stories (suc (suc (suc (suc zero)))) paired low high = story_4 paired
are_stories (suc (suc (suc (suc (suc zero))))) paired low high = story_5 paired
are_stories (suc (suc (suc (suc (suc (suc zero)))))) paired low high = story_6 paired
are_stories (suc (suc (suc (suc (suc (suc (suc zero))))))) paired low high = story_7 paired
are_stories (suc (suc (suc (suc (suc (suc (suc (suc zero)))))))) paired low high = story_8 paired
are_stories (suc (suc (suc (suc (suc (suc (suc (suc (suc zero))))))))) paired low high = story_9 paired
are_stories (suc (suc (suc (suc (suc (suc (suc (suc (suc (suc zero)))))))))) paired low high = story_10 paired
are_stories (suc (suc (suc (suc (suc (suc (suc (suc (suc (suc (suc zero))))))))))) paired low high = story_11 paired
are_stories (suc (suc (suc (suc (suc (suc (suc (suc (suc (suc (suc (suc zero)))))))))))) paired low high = story_12 paired
are_stories (suc (suc (suc (suc (suc (suc (suc (suc (suc (suc (suc (suc (suc zero))))))))))))) paired low high = story_13 paired
are_stories (suc (suc (suc (suc (suc (suc (suc (suc (suc (suc (suc (suc (suc (suc zero)))))))))))))) paired low high = story_14 paired
are_stories (suc (suc (suc (suc (suc (suc (suc (suc (suc (suc (suc (suc (suc (suc (suc zero))))))))))))))) paired low high = story_15 paired
are_stories (suc (suc (suc (suc (suc (suc (suc (suc (suc (suc (suc (suc (suc (suc (suc (suc zero)))))))))))))))) paired low high = story_16 paired
are_stories (suc (suc (suc (suc (suc (suc (suc (suc (suc (suc (suc (suc (suc (suc (suc (suc (suc n))))))))))))))))) paired low high = absurd (too_many n high)
  where
    too_many : (n : ℕ) → suc (suc (suc (suc (suc (suc (suc (suc (suc (suc (suc (suc (suc (suc (suc (suc (suc n)))))))))))))))) ≤ 16 → ⊥
    too_many n h = absurd (omega (arith, h))

pub story_headers_are_read : StoryHeadersAreRead
story_headers_are_read hosts paired low high = (are_stories hosts paired low high).0
