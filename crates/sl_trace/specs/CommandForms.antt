-- The grammar of commands: each form is a list of word tests, and a command fits one form word by word.
use Rattle.sl_area.specs.AreaSizes.{Layout}
use Rattle.sl_area.specs.AreaLayout.{is_base}
use Rattle.sl_text.specs.Forms.{Form, bad_column, coloned, exactly, made_by, pieces, spaced, word_at, words_of}
use Rattle.sl_text.specs.Names.{is_name, is_path}
use Rattle.sl_text.specs.Numbers.{hex_bytes, hex_text, is_hex_word, is_number_that, number_of}
use Rattle.sl_trace.specs.CountLimits.{most_children, most_processes}
use Rattle.sl_trace.specs.declared.command.Command.TheVariants.{Acquire, AddLockspace, Convert, GetLvb, HostStatus, InqLockspace, Release, ReleaseOrphan, RemLockspace, Request, RunProgram, SetKillpath, SetLvb, Status, TakeOver}
use Rattle.sl_trace.specs.declared.command.Command.{Command}
use Rattle.sl_trace.specs.declared.command.LockspaceArg.{LockspaceArg}
use Rattle.sl_trace.specs.declared.command.ResourceArg.{ResourceArg}
use Rattle.sl_words.specs.Bounds.{record_numbers}
use Rattle.std.specs.Int.{is_in_range}
use Rattle.std.specs.List.{list_all}
use Rattle.std.specs.Prelude.{Bool, Err, IsTrue, List, None, Ok, Option, Result, Some, [], bytes_eq, codes, decimal, false, length, nat_lt, true, ℕ, ◌&&◌, ◌++◌, ◌+◌, ◌-◌, ◌<◌, ◌==◌, ◌↔◌, ◌∷◌, ◌≡◌, ◌≤◌}

-- ---- words that stand for lockspaces, resources and values

-- The lockspace that a word names.
abbrev pub lockspace_of_word : List ℕ → LockspaceArg
lockspace_of_word w = let ps : List (List ℕ) = pieces 58 w in
    record { name = word_at ps 0; id = number_of (word_at ps 1); path = word_at ps 2; offset = number_of (word_at ps 3) }

-- The resource that a word names.
abbrev pub resource_of_word : List ℕ → ResourceArg
resource_of_word w = let ps : List (List ℕ) = pieces 58 w in
    record { lockspace = word_at ps 0; name = word_at ps 1; path = word_at ps 2; offset = number_of (word_at ps 3) }

-- `name:id:path:offset`, the id being one of the run's.
abbrev pub is_lockspace_word : Layout → List ℕ → Bool
is_lockspace_word g w = let ps : List (List ℕ) = pieces 58 w in
    length ps == 4 && is_name (word_at ps 0) && is_number_that (is_in_range 1 g.hosts) (word_at ps 1)
    && is_path (word_at ps 2) && is_number_that (is_base g) (word_at ps 3)

-- Its first four parts.
abbrev pub is_resource_front : Layout → List (List ℕ) → Bool
is_resource_front g ps = is_name (word_at ps 0) && is_name (word_at ps 1) && is_path (word_at ps 2) && is_number_that (is_base g) (word_at ps 3)

-- `lockspace:resource:path:offset`.
abbrev pub is_resource_word : Layout → List ℕ → Bool
is_resource_word g w = let ps : List (List ℕ) = pieces 58 w in length ps == 4 && is_resource_front g ps

-- The same with `:SH`.
abbrev pub is_shared_word : Layout → List ℕ → Bool
is_shared_word g w = let ps : List (List ℕ) = pieces 58 w in length ps == 5 && is_resource_front g ps && bytes_eq (word_at ps 4) (codes "SH")

-- The same with an lver that passes.
abbrev pub is_asked_word : (ℕ → Bool) → Layout → List ℕ → Bool
is_asked_word p g w = let ps : List (List ℕ) = pieces 58 w in length ps == 5 && is_resource_front g ps && is_number_that p (word_at ps 4)

-- The lver that such a word has.
abbrev pub asked_of_word : List ℕ → ℕ
asked_of_word w = number_of (word_at (pieces 58 w) 4)

-- ---- forms

-- A process number.
abbrev pub is_process_word : List ℕ → Bool
is_process_word w = is_number_that (is_in_range 1 (most_processes + most_children)) w

-- A verb, `-s` and a lockspace.
abbrev pub lockspace_form : Layout → List ℕ → (LockspaceArg → Command) → Form Command
lockspace_form g verb make =
    record {
      words = exactly verb ∷ exactly (codes "-s") ∷ is_lockspace_word g ∷ [];
      make = λ ws. make (lockspace_of_word (word_at ws 2));
    }

-- An option that is given as 1, at the end of a line.
abbrev pub option_words : List ℕ → List (List ℕ → Bool)
option_words name = exactly name ∷ exactly (codes "1") ∷ []

-- An acquire's resource and process, and its options.
abbrev pub acquire_form : (List ℕ → Bool) → List (List ℕ → Bool) → (ResourceArg → ℕ → Command) → Form Command
acquire_form is_resource options make =
    record {
      words = exactly (codes "acquire") ∷ exactly (codes "-r") ∷ is_resource ∷ exactly (codes "-p") ∷ is_process_word ∷ options;
      make = λ ws. make (resource_of_word (word_at ws 2)) (number_of (word_at ws 4));
    }

-- The forms of an acquire in a mode: plain, persistent, and each as a take-over of the orphan.
abbrev pub acquire_forms : (List ℕ → Bool) → Bool → List (Form Command)
acquire_forms is_resource shared =
    acquire_form is_resource [] (λ r p. Acquire r shared p false)
    ∷ acquire_form is_resource (option_words (codes "-P")) (λ r p. Acquire r shared p true)
    ∷ acquire_form is_resource (option_words (codes "-O")) (λ r p. TakeOver r shared p false)
    ∷ acquire_form is_resource (option_words (codes "-P") ++ option_words (codes "-O")) (λ r p. TakeOver r shared p true) ∷ []

-- The forms of all commands. A further command is a further line.
unfoldable pub forms : Layout → List (Form Command)
forms g =
    acquire_forms (is_resource_word g) false
    ++ acquire_forms (is_shared_word g) true
    ++ lockspace_form g (codes "add_lockspace") (λ a. AddLockspace a)
    ∷ lockspace_form g (codes "rem_lockspace") (λ a. RemLockspace a)
    ∷ lockspace_form g (codes "inq_lockspace") (λ a. InqLockspace a)
    ∷ lockspace_form g (codes "host_status") (λ a. HostStatus a)
    ∷ record {
      words = exactly (codes "release") ∷ exactly (codes "-r") ∷ is_resource_word g ∷ exactly (codes "-p") ∷ is_process_word ∷ [];
      make = λ ws. Release (resource_of_word (word_at ws 2)) (number_of (word_at ws 4));
    }
    ∷ record {
      words = exactly (codes "release") ∷ exactly (codes "-r") ∷ is_resource_word g ∷ option_words (codes "-O");
      make = λ ws. ReleaseOrphan (resource_of_word (word_at ws 2));
    }
    ∷ record {
      words = exactly (codes "convert") ∷ exactly (codes "-r") ∷ is_resource_word g ∷ exactly (codes "-p") ∷ is_process_word ∷ [];
      make = λ ws. Convert (resource_of_word (word_at ws 2)) false (number_of (word_at ws 4));
    }
    ∷ record {
      words = exactly (codes "convert") ∷ exactly (codes "-r") ∷ is_shared_word g ∷ exactly (codes "-p") ∷ is_process_word ∷ [];
      make = λ ws. Convert (resource_of_word (word_at ws 2)) true (number_of (word_at ws 4));
    }
    ∷ record {
      words = exactly (codes "command") ∷ exactly (codes "-r") ∷ is_resource_word g ∷ exactly (codes "-c") ∷ is_path ∷ [];
      make = λ ws. RunProgram (resource_of_word (word_at ws 2)) false (word_at ws 4);
    }
    ∷ record {
      words = exactly (codes "command") ∷ exactly (codes "-r") ∷ is_shared_word g ∷ exactly (codes "-c") ∷ is_path ∷ [];
      make = λ ws. RunProgram (resource_of_word (word_at ws 2)) true (word_at ws 4);
    }
    ∷ record {
      words = exactly (codes "request") ∷ exactly (codes "-r") ∷ is_asked_word (λ n. n == 0) g ∷ exactly (codes "-f") ∷ exactly (codes "0") ∷ [];
      make = λ ws. Request (resource_of_word (word_at ws 2)) 0 0;
    }
    ∷ record {
      words = exactly (codes "request") ∷ exactly (codes "-r") ∷ is_asked_word (λ n. is_in_range 1 (record_numbers - 1) n) g ∷ exactly (codes "-f")
          ∷ is_number_that (is_in_range 1 2) ∷ [];
      make = λ ws. Request (resource_of_word (word_at ws 2)) (asked_of_word (word_at ws 2)) (number_of (word_at ws 4));
    }
    ∷ record {
      words = exactly (codes "get_lvb") ∷ exactly (codes "-r") ∷ is_resource_word g ∷ exactly (codes "-p") ∷ is_process_word ∷ [];
      make = λ ws. GetLvb (resource_of_word (word_at ws 2)) (number_of (word_at ws 4));
    }
    ∷ record {
      words = exactly (codes "set_lvb") ∷ exactly (codes "-r") ∷ is_resource_word g ∷ exactly (codes "-p") ∷ is_process_word
          ∷ exactly (codes "-d") ∷ is_hex_word 2 512 ∷ [];
      make = λ ws. SetLvb (resource_of_word (word_at ws 2)) (number_of (word_at ws 4)) (hex_bytes (word_at ws 6));
    }
    ∷ record {
      words = exactly (codes "set_killpath") ∷ exactly (codes "-p") ∷ is_process_word ∷ exactly (codes "-c") ∷ is_path ∷ [];
      make = λ ws. SetKillpath (number_of (word_at ws 2)) (word_at ws 4);
    }
    ∷ record { words = exactly (codes "status") ∷ []; make = λ ws. Status }
    ∷ []

-- What the words make, or the column where they fail.
abbrev pub command_or : Option Command → ℕ → Result Command ℕ
command_or None column = Err column
command_or (Some c) column = Ok c

-- What a command's text says, or the column of the first word that doesn't fit.
abbrev pub command_in : List (Form Command) → List ℕ → Result Command ℕ
command_in fs text = command_or (made_by fs (words_of text)) (bad_column fs (words_of text))

-- ---- the other direction: a command's one text

-- The word of a lockspace.
abbrev pub lockspace_word : LockspaceArg → List ℕ
lockspace_word a = coloned (a.name ∷ decimal a.id ∷ a.path ∷ decimal a.offset ∷ [])

-- The parts of a resource's word.
abbrev pub resource_parts : ResourceArg → List (List ℕ)
resource_parts r = r.lockspace ∷ r.name ∷ r.path ∷ decimal r.offset ∷ []

-- The word of a resource, with `:SH` for the shared mode.
abbrev pub moded_word : ResourceArg → Bool → List ℕ
moded_word r true = coloned (resource_parts r ++ codes "SH" ∷ [])
moded_word r false = coloned (resource_parts r)

-- The words of an option, where it is given.
abbrev pub words_of_option : Bool → List ℕ → List (List ℕ)
words_of_option true name = name ∷ codes "1" ∷ []
words_of_option false name = []

-- The words of a command.
abbrev pub command_words : Command → List (List ℕ)
command_words (AddLockspace a) = codes "add_lockspace" ∷ codes "-s" ∷ lockspace_word a ∷ []
command_words (RemLockspace a) = codes "rem_lockspace" ∷ codes "-s" ∷ lockspace_word a ∷ []
command_words (InqLockspace a) = codes "inq_lockspace" ∷ codes "-s" ∷ lockspace_word a ∷ []
command_words (HostStatus a) = codes "host_status" ∷ codes "-s" ∷ lockspace_word a ∷ []
command_words (Acquire r shared p persistent) =
    codes "acquire" ∷ codes "-r" ∷ moded_word r shared ∷ codes "-p" ∷ decimal p ∷ words_of_option persistent (codes "-P")
command_words (TakeOver r shared p persistent) =
    codes "acquire" ∷ codes "-r" ∷ moded_word r shared ∷ codes "-p" ∷ decimal p
    ∷ words_of_option persistent (codes "-P") ++ words_of_option true (codes "-O")
command_words (Release r p) = codes "release" ∷ codes "-r" ∷ moded_word r false ∷ codes "-p" ∷ decimal p ∷ []
command_words (ReleaseOrphan r) = codes "release" ∷ codes "-r" ∷ moded_word r false ∷ words_of_option true (codes "-O")
command_words (Convert r shared p) = codes "convert" ∷ codes "-r" ∷ moded_word r shared ∷ codes "-p" ∷ decimal p ∷ []
command_words (RunProgram r shared path) = codes "command" ∷ codes "-r" ∷ moded_word r shared ∷ codes "-c" ∷ path ∷ []
command_words (Request r lver force) = codes "request" ∷ codes "-r" ∷ coloned (resource_parts r ++ decimal lver ∷ []) ∷ codes "-f" ∷ decimal force ∷ []
command_words (GetLvb r p) = codes "get_lvb" ∷ codes "-r" ∷ moded_word r false ∷ codes "-p" ∷ decimal p ∷ []
command_words (SetLvb r p bytes) = codes "set_lvb" ∷ codes "-r" ∷ moded_word r false ∷ codes "-p" ∷ decimal p ∷ codes "-d" ∷ hex_text bytes ∷ []
command_words (SetKillpath p path) = codes "set_killpath" ∷ codes "-p" ∷ decimal p ∷ codes "-c" ∷ path ∷ []
command_words Status = codes "status" ∷ []

-- ---- what a command may name

-- A lockspace that a command may name.
pub record IsLockspaceArg (g : Layout) (a : LockspaceArg) : Type 0 where
  pub name : IsTrue (is_name a.name)
  -- of the run's hosts
  pub host : IsTrue (is_in_range 1 g.hosts a.id)
  pub disk : IsTrue (is_path a.path)
  -- areas stand at multiples of their size, so two of them never overlap
  pub base : IsTrue (is_base g a.offset)

-- A resource that a command may name.
pub record IsResourceArg (g : Layout) (r : ResourceArg) : Type 0 where
  pub space : IsTrue (is_name r.lockspace)
  pub named : IsTrue (is_name r.name)
  pub disk : IsTrue (is_path r.path)
  pub base : IsTrue (is_base g r.offset)

-- A process that a command may name: one of the machine's, or a child of the daemon.
abbrev pub IsProcess : ℕ → Type 0
IsProcess p = IsTrue (is_in_range 1 (most_processes + most_children) p)

-- A request asks for an lver by force 1 or 2, or it clears by lver 0 and force 0.
pub record IsRequestArg (lver force : ℕ) : Type 0 where
  pub below : lver < record_numbers
  pub forces : force ≤ 2
  pub clears : (force ≡ 0) ↔ (lver ≡ 0)

-- 1 to 256 bytes.
pub record IsValueArg (bytes : List ℕ) : Type 0 where
  pub long : IsTrue (is_in_range 1 256 (length bytes))
  pub each : IsTrue (list_all (λ b. nat_lt b 256) bytes)

-- What a command may name.
abbrev pub IsCommand : Layout → Command → Type 0
IsCommand g (AddLockspace a) = IsLockspaceArg g a
IsCommand g (RemLockspace a) = IsLockspaceArg g a
IsCommand g (InqLockspace a) = IsLockspaceArg g a
IsCommand g (HostStatus a) = IsLockspaceArg g a
IsCommand g (Acquire r shared p persistent) = IsResourceArg g r × IsProcess p
IsCommand g (TakeOver r shared p persistent) = IsResourceArg g r × IsProcess p
IsCommand g (Release r p) = IsResourceArg g r × IsProcess p
IsCommand g (ReleaseOrphan r) = IsResourceArg g r
IsCommand g (Convert r shared p) = IsResourceArg g r × IsProcess p
IsCommand g (RunProgram r shared path) = IsResourceArg g r × IsTrue (is_path path)
IsCommand g (Request r lver force) = IsResourceArg g r × IsRequestArg lver force
IsCommand g (GetLvb r p) = IsResourceArg g r × IsProcess p
IsCommand g (SetLvb r p bytes) = IsResourceArg g r × IsProcess p × IsValueArg bytes
IsCommand g (SetKillpath p path) = IsProcess p × IsTrue (is_path path)
IsCommand g Status = Unit {0}

-- The text is the command's: it may name what it does, and its words stand with one space between them.
abbrev pub SpellsCommand : Layout → List ℕ → Command → Type 0
SpellsCommand g text c = IsCommand g c × (text ≡ spaced (command_words c))

-- What a reader of commands owes.
abbrev pub ReadsCommands : Layout → Type 0
ReadsCommands g = (text : List ℕ) (c : Command) → (command_in (forms g) text ≡ Ok c) ↔ SpellsCommand g text c
