-- Words and lines as they are written one behind another.
use Rattle.sl_text.specs.Forms.{coloned, spaced}
use Rattle.sl_trace.specs.EffectTexts.{is_free_host, machine_line, state_word}
use Rattle.sl_trace.specs.declared.reply.SessionOf.{SessionOf}
use Rattle.sl_trace.specs.declared.reply.StateOf.{StateOf}
use Rattle.std.specs.Prelude.{List, decimal, filter, flat_map, length, map, not, take, [], ℕ, ◌++◌, ◌∷◌, ◌≡◌}

-- A text begins with this one.
unfoldable pub IsFront : List ℕ → List ℕ → Type 0
IsFront front text = take (length front) text ≡ front

-- Whatever the text began with, it begins with still.
abbrev pub KeepsFronts : List ℕ → List ℕ → Type 0
KeepsFronts old new = (front : List ℕ) → IsFront front old → IsFront front new

-- Words, each with a space before it.
abbrev pub behind : List (List ℕ) → List ℕ
behind ws = flat_map (λ w. 32 ∷ w) ws

-- A first word, and numbers behind it.
abbrev pub counted : List ℕ → List ℕ → List ℕ
counted word numbers = spaced (word ∷ map decimal numbers)

-- An id and the word of its state.
abbrev pub host_word : StateOf → List ℕ
host_word s = coloned (decimal s.id ∷ state_word s.state ∷ [])

-- The ids that are not free, each with the word of its state.
abbrev pub host_words : List StateOf → List (List ℕ)
host_words states = map host_word (filter (λ s. not (is_free_host s.state)) states)

-- Lockspace, id and generation.
abbrev pub session_word : SessionOf → List ℕ
session_word s = coloned (s.lockspace ∷ decimal s.id ∷ decimal s.generation ∷ [])

-- A machine's line, with its line feed.
abbrev pub line_text : ℕ → List (List ℕ) → List ℕ
line_text machine ws = machine_line machine ws ++ 10 ∷ []

-- The lines of a machine's entries of one class, each with its line feed.
abbrev pub class_text : {A : Type 0} → ℕ → (A → List (List ℕ)) → List A → List ℕ
class_text machine words entries = flat_map (λ e. line_text machine (words e)) entries
