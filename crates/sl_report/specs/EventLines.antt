-- The lines of a schedule's events: their words.
use Rattle.sl_run.specs.declared.event.Event.TheVariants.{AnswerCall, Crash, Do, DropWrite, ExitOf, Land, Pass, Reset, Restart, Sample, SpawnedOf, StartDaemon, Tear, Test, WakeUp}
use Rattle.sl_run.specs.declared.event.Event.{Event}
use Rattle.sl_text.specs.Forms.{Form, exactly, word_at}
use Rattle.sl_text.specs.Names.{is_name}
use Rattle.sl_text.specs.Numbers.{capped_long, capped_short, hex_bytes, is_hex_word, is_number_text, is_number_that, number_of}
use Rattle.sl_trace.specs.CommandForms.{is_process_word}
use Rattle.sl_words.specs.Words.{choose}
use Rattle.std.specs.Prelude.{Bool, List, None, Option, Some, bytes_eq, codes, drop, length, map, nat_le, replicate, true, [], ℕ, ◌*◌, ◌+◌, ◌||◌, ◌∷◌}
use Rattle.sl_report.specs.HeaderLines.{is_positive_word}

-- `ok` or `failed`.
abbrev pub is_ok_word : List ℕ → Bool
is_ok_word w = bytes_eq w (codes "ok") || bytes_eq w (codes "failed")

-- A verb and a machine.
abbrev pub machine_form : List ℕ → (ℕ → Event) → Form Event
machine_form verb make = record { words = exactly verb ∷ is_positive_word ∷ []; make = λ ws. make (capped_short (word_at ws 1)) }

-- A verb, a machine and a call.
abbrev pub call_form : List ℕ → (ℕ → ℕ → Event) → Form Event
call_form verb make =
    record { words = exactly verb ∷ is_positive_word ∷ is_number_text ∷ []; make = λ ws. make (capped_short (word_at ws 1)) (capped_long (word_at ws 2)) }

-- The forms of M machines and sectors of S bytes, but `command`.
unfoldable pub event_forms : ℕ → ℕ → List (Form Event)
event_forms machines sector =
    record { words = exactly (codes "pass") ∷ is_number_text ∷ []; make = λ ws. Pass (capped_long (word_at ws 1)) None }
    ∷ record {
      words = exactly (codes "pass") ∷ is_number_text ∷ replicate machines is_number_text;
      make = λ ws. Pass (capped_long (word_at ws 1)) (Some (map capped_long (drop 2 ws)));
    }
    ∷ machine_form (codes "wake") (λ m. WakeUp m)
    ∷ record {
      words = exactly (codes "sample") ∷ is_positive_word ∷ is_number_text ∷ is_positive_word ∷ [];
      make = λ ws. Sample (capped_short (word_at ws 1)) (capped_long (word_at ws 2)) (capped_long (word_at ws 3));
    }
    ∷ call_form (codes "land") (λ m c. Land m c)
    ∷ record {
      words = exactly (codes "tear") ∷ is_positive_word ∷ is_number_text ∷ is_number_that (λ k. nat_le k sector) ∷ [];
      make = λ ws. Tear (capped_short (word_at ws 1)) (capped_long (word_at ws 2)) (number_of (word_at ws 3)) [];
    }
    ∷ record {
      words = exactly (codes "tear") ∷ is_positive_word ∷ is_number_text ∷ is_number_that (λ k. nat_le k sector) ∷ is_hex_word 2 (2 * sector) ∷ [];
      make = λ ws. Tear (capped_short (word_at ws 1)) (capped_long (word_at ws 2)) (number_of (word_at ws 3)) (hex_bytes (word_at ws 4));
    }
    ∷ record {
      words = exactly (codes "answer") ∷ is_positive_word ∷ is_number_text ∷ is_ok_word ∷ [];
      make = λ ws. AnswerCall (capped_short (word_at ws 1)) (capped_long (word_at ws 2)) (bytes_eq (word_at ws 3) (codes "ok"));
    }
    ∷ call_form (codes "do") (λ m c. Do m c)
    ∷ call_form (codes "drop") (λ m c. DropWrite m c)
    ∷ machine_form (codes "test") (λ m. Test m)
    ∷ record {
      words = exactly (codes "exit") ∷ is_positive_word ∷ is_process_word ∷ [];
      make = λ ws. ExitOf (capped_short (word_at ws 1)) (number_of (word_at ws 2));
    }
    ∷ record {
      words = exactly (codes "spawned") ∷ is_positive_word ∷ is_process_word ∷ is_ok_word ∷ [];
      make = λ ws. SpawnedOf (capped_short (word_at ws 1)) (number_of (word_at ws 2)) (bytes_eq (word_at ws 3) (codes "ok"));
    }
    ∷ record { words = exactly (codes "start") ∷ is_positive_word ∷ is_name ∷ []; make = λ ws. StartDaemon (capped_short (word_at ws 1)) (word_at ws 2) }
    ∷ machine_form (codes "crash") (λ m. Crash m)
    ∷ machine_form (codes "reset") (λ m. Reset m)
    ∷ machine_form (codes "restart") (λ m. Restart m)
    ∷ []

-- A torn write leaves no more bytes of its own than a sector has.
abbrev pub is_event : ℕ → Event → Bool
is_event sector (Tear m c k bytes) = nat_le (k + length bytes) sector
is_event sector e = true

-- The event, where its numbers go together.
abbrev pub checked_event : ℕ → Option Event → Option Event
checked_event sector None = None
checked_event sector (Some e) = choose (is_event sector e) e
