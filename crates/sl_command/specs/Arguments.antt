-- Arguments of commands as they are read: each word with the tests of its parts, which are taken one by one.
use Rattle.sl_area.specs.AreaSizes.{Layout}
use Rattle.sl_area.specs.AreaLayout.{is_base}
use Rattle.sl_text.specs.Forms.{exactly}
use Rattle.sl_text.specs.Names.{is_name, is_path}
use Rattle.sl_text.specs.Numbers.{is_number_that, number_of}
use Rattle.sl_text.specs.Walks.{Part, Unread, at_end, four_read, next_part, past_word, past_words}
use Rattle.sl_trace.specs.CommandForms.{asked_of_word, is_asked_word, is_resource_word, is_shared_word, resource_of_word}
use Rattle.sl_trace.specs.declared.command.LockspaceArg.{LockspaceArg}
use Rattle.sl_trace.specs.declared.command.ResourceArg.{ResourceArg}
use Rattle.sl_words.specs.Bounds.{record_numbers}
use Rattle.sl_words.specs.Results.{◌>>=◌}
use Rattle.std.specs.Int.{is_in_range}
use Rattle.std.specs.Prelude.{Bool, List, Ok, Result, codes, not, ℕ, ◌-◌, ◌==◌, ◌||◌}

-- A name.
abbrev pub name_part : Part (List ℕ)
name_part = record { passes = is_name; value = λ w. w }

-- A path.
abbrev pub path_part : Part (List ℕ)
path_part = record { passes = is_path; value = λ w. w }

-- A number that passes.
abbrev pub number_part : (ℕ → Bool) → Part ℕ
number_part p = record { passes = is_number_that p; value = number_of }

-- The mark of the shared mode.
abbrev pub shared_part : Part (Unit {0})
shared_part = record { passes = exactly (codes "SH"); value = λ w. tt }

-- A lockspace's parts, read one by one.
abbrev pub lockspace_read : Layout → Unread → Result LockspaceArg ℕ
lockspace_read g u =
    four_read name_part (number_part (is_in_range 1 g.hosts)) path_part (number_part (is_base g))
    (λ name id path offset. record { name = name; id = id; path = path; offset = offset }) u

-- A resource of these parts.
abbrev pub resource_with : List ℕ → List ℕ → List ℕ → ℕ → ResourceArg
resource_with lockspace name path offset = record { lockspace = lockspace; name = name; path = path; offset = offset }

-- The four parts of a resource, read one by one, whatever stands behind them.
abbrev pub front_read : Layout → Unread → Result ResourceArg ℕ
front_read g u = do
  lockspace ← next_part name_part u
  name ← next_part name_part (past_word u)
  path ← next_part path_part (past_word (past_word u))
  offset ← next_part (number_part (is_base g)) (past_word (past_word (past_word u)))
  Ok (resource_with lockspace name path offset)

-- A resource's parts and no more.
abbrev pub resource_read : Layout → Unread → Result ResourceArg ℕ
resource_read g u = front_read g u >>= λ r. at_end (past_words 4 u) >>= λ _. Ok r

-- A resource's parts and one more, and what is made of them.
abbrev pub longer_read : {A B : Type 0} → Layout → Part A → (ResourceArg → A → B) → Unread → Result B ℕ
longer_read g t make u = front_read g u >>= λ r. next_part t (past_words 4 u) >>= λ a. at_end (past_words 5 u) >>= λ _. Ok (make r a)

-- A resource's parts and the mark of the shared mode.
abbrev pub shared_read : Layout → Unread → Result ResourceArg ℕ
shared_read g u = longer_read g shared_part (λ r mark. r) u

-- A resource with something else.
abbrev pub beside : {A : Type 0} → ResourceArg → A → ResourceArg × A
beside r a = (r, a)

-- A resource's parts and an lver.
abbrev pub asked_read : Layout → Unread → Result (ResourceArg × ℕ) ℕ
asked_read g u = longer_read g (number_part (is_in_range 0 (record_numbers - 1))) (λ r n. beside r n) u

-- A resource's word in one mode or the other.
abbrev pub is_moded_word : Layout → List ℕ → Bool
is_moded_word g w = is_resource_word g w || is_shared_word g w

-- The resource, and whether it is meant in the shared mode.
abbrev pub moded_of_word : Layout → List ℕ → ResourceArg × Bool
moded_of_word g w = beside (resource_of_word w) (not (is_resource_word g w))

-- A resource's word with the lver 0, by which a request is cleared.
abbrev pub is_clearing_word : Layout → List ℕ → Bool
is_clearing_word g w = is_asked_word (λ n. n == 0) g w

-- A resource's word with an lver that may be asked for.
abbrev pub is_asking_word : Layout → List ℕ → Bool
is_asking_word g w = is_asked_word (λ n. is_in_range 1 (record_numbers - 1) n) g w

-- One or the other.
abbrev pub is_request_word : Layout → List ℕ → Bool
is_request_word g w = is_clearing_word g w || is_asking_word g w

-- The resource, and the lver.
abbrev pub request_of_word : List ℕ → ResourceArg × ℕ
request_of_word w = beside (resource_of_word w) (asked_of_word w)
