-- A command that may be named is read of its one text.
use Rattle.sl_area.specs.AreaSizes.{Layout}
use Rattle.sl_command.proofs.PartTexts.{asked_written, lockspace_written, number_written, range_small, resource_written, shared_written}
use Rattle.sl_command.proofs.VerbLaws.{acquire_verb, add_lockspace_verb, convert_verb, get_lvb_verb, host_status_verb, inq_lockspace_verb, not_exclusive, program_verb, read_whole, release_verb, rem_lockspace_verb, request_verb, set_killpath_verb, set_lvb_verb, status_verb}
use Rattle.sl_command.specs.Arguments.{beside, is_asking_word, is_clearing_word, is_moded_word, is_request_word, moded_of_word, request_of_word}
use Rattle.sl_command.specs.VerbReads.{acquiring, asking_tests, clearing_tests, for_process, force_with, held_by, holder_behind, killpath_read, killpath_tests, lockspace_behind, options_read, process_behind, process_tests, program_behind, program_tests, releaser_behind, releasing, value_behind, value_tests, wanted, with_resource, with_value}
use Rattle.sl_text.proofs.FreeLaws.{decimal_free, hex_free, path_free}
use Rattle.sl_text.proofs.HexLaws.{hex_bytes-hex_text, is_hex_word-hex_text}
use Rattle.sl_text.proofs.NumberLaws.{number_of-decimal}
use Rattle.sl_text.proofs.PieceLaws.{pieces-join_with_byte}
use Rattle.sl_text.specs.Forms.{coloned, exactly, is_free_of, spaced, word_at}
use Rattle.sl_text.specs.Names.{is_path}
use Rattle.sl_text.specs.Numbers.{IsBytes, hex_bytes, hex_text, is_hex_word, number_of}
use Rattle.sl_text.specs.Walks.{Unread, column_behind, past_word, read_by, read_each}
use Rattle.sl_trace.specs.CommandForms.{asked_of_word, IsCommand, IsLockspaceArg, IsProcess, IsRequestArg, IsResourceArg, IsValueArg, command_in, command_words, forms, is_lockspace_word, is_process_word, is_resource_word, is_shared_word, lockspace_of_word, lockspace_word, moded_word, resource_of_word, resource_parts, words_of_option}
use Rattle.sl_trace.specs.declared.command.Command.TheVariants.{Acquire, AddLockspace, Convert, GetLvb, HostStatus, InqLockspace, Release, ReleaseOrphan, RemLockspace, Request, RunProgram, SetKillpath, SetLvb, Status, TakeOver}
use Rattle.sl_trace.specs.declared.command.Command.{Command}
use Rattle.sl_trace.specs.declared.command.LockspaceArg.{LockspaceArg}
use Rattle.sl_trace.specs.declared.command.ResourceArg.{ResourceArg}
use Rattle.sl_words.proofs.WordLaws.{and_true}
use Rattle.sl_words.specs.Results.{◌>>=◌}
use Rattle.std.proofs.Common.{Bool, List, [], ap, arith, false, leb, length, lit<, ltb, refl, subst, suc, sym, true, zero, ℕ, ◌++◌, ◌+◌, ◌-◌, ◌<◌, ◌^◌, ◌||◌, ◌≡◌, ◌∙◌, ◌∷◌, ◌≤◌}
use Rattle.std.proofs.lemmas.Bool.{and_from, le-leb, leb-true, ltb-true, ne_eqb, or_right}
use Rattle.std.proofs.lemmas.Fmt.{decimal_digit}
use Rattle.std.specs.Int.{is_in_range}
use Rattle.std.specs.List.{list_all}
use Rattle.std.specs.Prelude.{Err, None, Ok, Result, Some, codes, decimal, if◌then◌else◌, not, ◌==◌}

-- ---- words that pass

-- Words that pass the tests one by one.
abbrev Passing : List (List ℕ → Bool) → List (List ℕ) → Type 0
Passing [] [] = Unit {0}
Passing [] (w ∷ ws) = ⊥
Passing (p ∷ ps) [] = ⊥
Passing (p ∷ ps) (w ∷ ws) = (p w ≡ true) × Passing ps ws

-- They are read, and nothing is left.
passing_read : {A : Type 0} (ps : List (List ℕ → Bool)) (ws : List (List ℕ)) (make : List (List ℕ) → A) (column : ℕ) → Passing ps ws
    → read_each ps make (record { column = column; words = ws }) ≡ Ok (make ws)
passing_read [] [] make column h = refl
passing_read [] (w ∷ ws) make column h = absurd h
passing_read (p ∷ ps) [] make column h = absurd h
passing_read (p ∷ ps) (w ∷ ws) make column h =
    ap (λ t. (if t then Ok w else Err column) >>= λ v. read_each ps (λ vs. make (v ∷ vs)) (past_word (record { column = column; words = w ∷ ws }))) h.0
    ∙ passing_read ps ws (λ vs. make (w ∷ vs)) (column_behind column (w ∷ ws)) h.1

-- A flag, a word that passes and what is read behind it.
resource_passes : {A B C : Type 0} (p : List ℕ → Bool) (value : List ℕ → A) (tail : A → Unread → Result B ℕ) (make : A → B → C) (column : ℕ) (w : List ℕ) (ws : List (List ℕ)) (a : A) (b : B)
    → p w ≡ true → value w ≡ a → ((k : ℕ) → tail a (record { column = k; words = ws }) ≡ Ok b)
    → with_resource p value tail make (record { column = column; words = codes "-r" ∷ w ∷ ws }) ≡ Ok (make a b)
resource_passes {A} p value tail make column w ws a b h is read =
    let u : Unread = past_word (record { column = column; words = codes "-r" ∷ w ∷ ws }) in
    ap (λ t. (if t then Ok (value w) else Err u.column) >>= λ x. tail x (past_word u) >>= λ y. Ok (make x y)) h
    ∙ ap (λ x. tail x (past_word u) >>= λ y. Ok (make x y)) is
    ∙ ap (λ r. r >>= λ y. Ok (make a y)) (read (column_behind u.column (w ∷ ws)))

-- ---- what is read of a command's words

-- The words, from the first column on.
abbrev at_front : List (List ℕ) → Unread
at_front ws = record { column = 1; words = ws }

-- The column behind a verb.
abbrev past_verb : List ℕ → ℕ
past_verb verb = 1 + length verb + 1

-- A command is read of its words, each of which is without spaces.
record IsRead (g : Layout) (c : Command) : Type 0 where
  read : read_by (forms g) (at_front (command_words c)) ≡ Ok c
  spaceless : list_all (is_free_of 32) (command_words c) ≡ true
  some : 0 < length (command_words c)

-- A process.
process_small : (p : ℕ) → IsProcess p → p < 2 ^ 64
process_small p h = range_small 1 2000000 p (lit< tt) h

process_passes : (p : ℕ) → IsProcess p → is_process_word (decimal p) ≡ true
process_passes p h = number_written (is_in_range 1 2000000) p (process_small p h) h

process_is_read : (p : ℕ) → IsProcess p → (k : ℕ) → process_behind (record { column = k; words = codes "-p" ∷ decimal p ∷ [] }) ≡ Ok p
process_is_read p h k =
    passing_read process_tests (codes "-p" ∷ decimal p ∷ []) (λ ws. number_of (word_at ws 1)) k (refl, (process_passes p h, tt)) ∙ ap Ok (number_of-decimal p (process_small p h))

program_is_read : (path : List ℕ) → is_path path ≡ true → (k : ℕ) → program_behind (record { column = k; words = codes "-c" ∷ path ∷ [] }) ≡ Ok path
program_is_read path h k = passing_read program_tests (codes "-c" ∷ path ∷ []) (λ ws. word_at ws 1) k (refl, (h, tt))

-- Words of a lockspace's command.
lockspace_is_read : (g : Layout) (a : LockspaceArg) (k : ℕ) → g.hosts < 2 ^ 64 → IsLockspaceArg g a
    → lockspace_behind g (record { column = k; words = codes "-s" ∷ lockspace_word a ∷ [] }) ≡ Ok a
lockspace_is_read g a k few is =
    let word = lockspace_written g a few is in
    passing_read (exactly (codes "-s") ∷ is_lockspace_word g ∷ []) (codes "-s" ∷ lockspace_word a ∷ []) (λ ws. lockspace_of_word (word_at ws 1)) k (refl, (word.0, tt)) ∙ ap Ok word.1

-- A command of a lockspace.
lockspace_command : (g : Layout) (verb : List ℕ) (make : LockspaceArg → Command) (a : LockspaceArg) → g.hosts < 2 ^ 64 → IsLockspaceArg g a
    → is_free_of 32 verb ≡ true → command_words (make a) ≡ verb ∷ codes "-s" ∷ lockspace_word a ∷ []
    → read_by (forms g) (at_front (verb ∷ codes "-s" ∷ lockspace_word a ∷ []))
    ≡ (lockspace_behind g (past_word (at_front (verb ∷ codes "-s" ∷ lockspace_word a ∷ []))) >>= λ b. Ok (make b))
    → IsRead g (make a)
lockspace_command g verb make a few is free words reads =
    let word = lockspace_written g a few is in
    let ws : List (List ℕ) = verb ∷ codes "-s" ∷ lockspace_word a ∷ [] in
    record {
      read = ap (λ vs. read_by (forms g) (at_front vs)) words ∙ reads ∙ ap (λ r. r >>= λ b. Ok (make b)) (lockspace_is_read g a (column_behind 1 ws) few is);
      spaceless = ap (list_all (is_free_of 32)) words ∙ and_from _ _ free (and_from (is_free_of 32 (lockspace_word a)) true word.2 refl);
      some = rw words (lit< tt);
    }

-- A command of a resource, one thing more, and words behind it.
resource_command : (g : Layout) (c : Command) (verb w flag x : List ℕ) (more : List (List ℕ)) → command_words c ≡ verb ∷ codes "-r" ∷ w ∷ flag ∷ x ∷ more
    → is_free_of 32 verb ≡ true → is_free_of 32 w ≡ true → is_free_of 32 flag ≡ true → is_free_of 32 x ≡ true → list_all (is_free_of 32) more ≡ true
    → read_by (forms g) (at_front (verb ∷ codes "-r" ∷ w ∷ flag ∷ x ∷ more)) ≡ Ok c → IsRead g c
resource_command g c verb w flag x more words free_verb free_w free_flag free_x free_more reads =
    record {
      read = ap (λ vs. read_by (forms g) (at_front vs)) words ∙ reads;
      spaceless = ap (list_all (is_free_of 32)) words ∙ and_from _ _ free_verb (and_from (is_free_of 32 w) _ free_w (and_from _ _ free_flag (and_from _ _ free_x free_more)));
      some = subst (λ (ws : List (List ℕ)). 0 < length ws) (sym words) (omega arith);
    }

process_free : (p : ℕ) → IsProcess p → is_free_of 32 (decimal p) ≡ true
process_free p h = decimal_free 32 p refl (process_small p h)

-- A resource in one mode.
moded_is : (g : Layout) (w : List ℕ) (r : ResourceArg) (t : Bool) → resource_of_word w ≡ r → is_resource_word g w ≡ t → moded_of_word g w ≡ beside r (not t)
moded_is g w r t is mode = ap (λ x. beside x (not (is_resource_word g w))) is ∙ ap (λ m. beside r (not m)) mode

moded_written : (g : Layout) (r : ResourceArg) (shared : Bool) → IsResourceArg g r
    → let w : List ℕ = moded_word r shared in (is_moded_word g w ≡ true) × (moded_of_word g w ≡ beside r shared) × (is_free_of 32 w ≡ true)
moded_written g r false is =
    let w : List ℕ = moded_word r false in
    let word = resource_written g r is in (ap (λ t. t || is_shared_word g w) word.0, moded_is g w r true word.1 word.0, word.2)
moded_written g r true is =
    let w : List ℕ = moded_word r true in
    let word = shared_written g r is in (or_right (is_resource_word g w) (is_shared_word g w) word.0, moded_is g w r false word.1 (not_exclusive g w word.0), word.2)

-- A command of a resource in either mode.
moded_command : {B : Type 0} (g : Layout) (c : Command) (verb : List ℕ) (behind : Unread → Result B ℕ) (make : ResourceArg → Bool → B → Command)
    (r : ResourceArg) (shared : Bool) (b : B) (flag x : List ℕ) (more : List (List ℕ)) → IsResourceArg g r
    → command_words c ≡ verb ∷ codes "-r" ∷ moded_word r shared ∷ flag ∷ x ∷ more → make r shared b ≡ c
    → is_free_of 32 verb ≡ true → is_free_of 32 flag ≡ true → is_free_of 32 x ≡ true → list_all (is_free_of 32) more ≡ true
    → (let u : Unread = at_front (verb ∷ codes "-r" ∷ moded_word r shared ∷ flag ∷ x ∷ more) in
    read_by (forms g) u ≡ with_resource (is_moded_word g) (moded_of_word g) (λ m. behind) (λ m b. make m.0 m.1 b) (past_word u))
    → ((k : ℕ) → behind (record { column = k; words = flag ∷ x ∷ more }) ≡ Ok b) → IsRead g c
moded_command g c verb behind make r shared b flag x more is words makes free_verb free_flag free_x free_more verb_read is_read =
    let w : List ℕ = moded_word r shared in
    let word = moded_written g r shared is in
    resource_command g c verb w flag x more words free_verb word.2 free_flag free_x free_more
    (verb_read
    ∙ resource_passes (is_moded_word g) (moded_of_word g) (λ m. behind) (λ m b. make m.0 m.1 b) (past_verb verb) w (flag ∷ x ∷ more) (beside r shared) b word.0 word.1 is_read
    ∙ ap Ok makes)

-- The options of an acquire.
abbrev option_texts : Bool → Bool → List (List ℕ)
option_texts persistent orphan = words_of_option persistent (codes "-P") ++ words_of_option orphan (codes "-O")

options_are_read : (persistent orphan : Bool) (k : ℕ) → options_read (record { column = k; words = option_texts persistent orphan }) ≡ Ok (wanted persistent orphan)
options_are_read false false k = refl
options_are_read true false k = refl
options_are_read false true k = refl
options_are_read true true k = refl

options_free : (persistent orphan : Bool) → list_all (is_free_of 32) (option_texts persistent orphan) ≡ true
options_free false false = refl
options_free true false = refl
options_free false true = refl
options_free true true = refl

-- A process and its options.
holder_then : (t : Bool) (n p k : ℕ) (column : ℕ) (o : Result (Bool × Bool) ℕ) (options : Bool × Bool) → t ≡ true → n ≡ p → o ≡ Ok options
    → ((if t then Ok n else Err column) >>= λ m. o >>= λ x. Ok (held_by m x)) ≡ Ok (held_by p options)
holder_then t n p k column o options h same is = rw (h, same, is) refl

holder_is_read : (p : ℕ) (persistent orphan : Bool) → IsProcess p → (k : ℕ)
    → holder_behind (record { column = k; words = codes "-p" ∷ decimal p ∷ option_texts persistent orphan }) ≡ Ok (held_by p (wanted persistent orphan))
holder_is_read p persistent orphan h k =
    let u : Unread = record { column = k; words = codes "-p" ∷ decimal p ∷ option_texts persistent orphan } in
    let v : Unread = past_word u in
    holder_then (is_process_word (decimal p)) (number_of (decimal p)) p k v.column (options_read (past_word v)) (wanted persistent orphan)
    (process_passes p h) (number_of-decimal p (process_small p h)) (options_are_read persistent orphan (past_word v).column)

-- The words of an acquire.
holder_words : (r : ResourceArg) (shared : Bool) (p : ℕ) (persistent orphan : Bool)
    → command_words (acquiring r shared (held_by p (wanted persistent orphan)))
    ≡ codes "acquire" ∷ codes "-r" ∷ moded_word r shared ∷ codes "-p" ∷ decimal p ∷ option_texts persistent orphan
holder_words r shared p persistent true = refl
holder_words r shared p true false = refl
holder_words r shared p false false = refl

acquire_command : (g : Layout) (r : ResourceArg) (shared : Bool) (p : ℕ) (persistent orphan : Bool) → IsResourceArg g r → IsProcess p
    → IsRead g (acquiring r shared (held_by p (wanted persistent orphan)))
acquire_command g r shared p persistent orphan is h =
    let more : List (List ℕ) = option_texts persistent orphan in
    moded_command g (acquiring r shared (held_by p (wanted persistent orphan))) (codes "acquire") holder_behind acquiring r shared (held_by p (wanted persistent orphan))
    (codes "-p") (decimal p) more is (holder_words r shared p persistent orphan) refl refl refl (process_free p h) (options_free persistent orphan)
    (acquire_verb g (at_front (codes "acquire" ∷ codes "-r" ∷ moded_word r shared ∷ codes "-p" ∷ decimal p ∷ more)) refl)
    (holder_is_read p persistent orphan h)

convert_command : (g : Layout) (r : ResourceArg) (shared : Bool) (p : ℕ) → IsResourceArg g r → IsProcess p → IsRead g (Convert r shared p)
convert_command g r shared p is h =
    moded_command g (Convert r shared p) (codes "convert") process_behind (λ r m p. Convert r m p) r shared p (codes "-p") (decimal p) [] is refl refl refl refl (process_free p h) refl
    (convert_verb g (at_front (codes "convert" ∷ codes "-r" ∷ moded_word r shared ∷ codes "-p" ∷ decimal p ∷ [])) refl) (process_is_read p h)

program_command : (g : Layout) (r : ResourceArg) (shared : Bool) (path : List ℕ) → IsResourceArg g r → is_path path ≡ true → IsRead g (RunProgram r shared path)
program_command g r shared path is h =
    moded_command g (RunProgram r shared path) (codes "command") program_behind (λ r m path. RunProgram r m path) r shared path (codes "-c") path [] is refl refl refl refl
    (path_free 32 path refl h) refl (program_verb g (at_front (codes "command" ∷ codes "-r" ∷ moded_word r shared ∷ codes "-c" ∷ path ∷ [])) refl) (program_is_read path h)

-- A command of a resource and a process.
process_command : (g : Layout) (verb : List ℕ) (make : ResourceArg → ℕ → Command) (r : ResourceArg) (p : ℕ) → IsResourceArg g r → IsProcess p → is_free_of 32 verb ≡ true
    → command_words (make r p) ≡ verb ∷ codes "-r" ∷ moded_word r false ∷ codes "-p" ∷ decimal p ∷ []
    → (let u : Unread = at_front (verb ∷ codes "-r" ∷ moded_word r false ∷ codes "-p" ∷ decimal p ∷ []) in read_by (forms g) u ≡ for_process g make (past_word u))
    → IsRead g (make r p)
process_command g verb make r p is h free words reads =
    let w : List ℕ = moded_word r false in
    let word = resource_written g r is in
    resource_command g (make r p) verb w (codes "-p") (decimal p) [] words free word.2 refl (process_free p h) refl
    (reads
    ∙ resource_passes (is_resource_word g) resource_of_word (λ r. process_behind) make (past_verb verb) w (codes "-p" ∷ decimal p ∷ []) r p word.0 word.1 (process_is_read p h))

-- A release by a process, and of the orphan.
releaser_is_read : (p : ℕ) → IsProcess p → (k : ℕ) → releaser_behind (record { column = k; words = codes "-p" ∷ decimal p ∷ [] }) ≡ Ok (Some p)
releaser_is_read p h k = ap (λ r. r >>= λ x. Ok (Some x)) (process_is_read p h k)

release_command : (g : Layout) (r : ResourceArg) (p : ℕ) → IsResourceArg g r → IsProcess p → IsRead g (Release r p)
release_command g r p is h =
    let w : List ℕ = moded_word r false in
    let word = resource_written g r is in
    resource_command g (Release r p) (codes "release") w (codes "-p") (decimal p) [] refl refl word.2 refl (process_free p h) refl
    (release_verb g (at_front (codes "release" ∷ codes "-r" ∷ w ∷ codes "-p" ∷ decimal p ∷ [])) refl
    ∙ resource_passes (is_resource_word g) resource_of_word (λ r. releaser_behind) releasing (past_verb (codes "release")) w (codes "-p" ∷ decimal p ∷ []) r (Some p) word.0 word.1
    (releaser_is_read p h))

orphan_command : (g : Layout) (r : ResourceArg) → IsResourceArg g r → IsRead g (ReleaseOrphan r)
orphan_command g r is =
    let w : List ℕ = moded_word r false in
    let word = resource_written g r is in
    resource_command g (ReleaseOrphan r) (codes "release") w (codes "-O") (codes "1") [] refl refl word.2 refl refl refl
    (release_verb g (at_front (codes "release" ∷ codes "-r" ∷ w ∷ codes "-O" ∷ codes "1" ∷ [])) refl
    ∙ resource_passes (is_resource_word g) resource_of_word (λ r. releaser_behind) releasing (past_verb (codes "release")) w (codes "-O" ∷ codes "1" ∷ []) r None word.0 word.1
    (λ k. refl))

-- A request that clears, and one that asks.
clearing_request : (g : Layout) (r : ResourceArg) → IsResourceArg g r → IsRead g (Request r 0 0)
clearing_request g r is =
    let w : List ℕ = coloned (resource_parts r ++ decimal 0 ∷ []) in
    let word = asked_written (λ n. n == 0) g r 0 is (lit< tt) refl in
    let digit : decimal 0 ≡ codes "0" = decimal_digit 0 (lit< tt) in
    let zero_word : exactly (codes "0") (decimal 0) ≡ true = ap (exactly (codes "0")) digit in
    resource_command g (Request r 0 0) (codes "request") w (codes "-f") (decimal 0) [] refl refl word.3 refl (decimal_free 32 0 refl (lit< tt)) refl
    (request_verb g (at_front (codes "request" ∷ codes "-r" ∷ w ∷ codes "-f" ∷ decimal 0 ∷ [])) refl
    ∙ resource_passes (is_request_word g) request_of_word (λ m. force_with (m.1 == 0)) (λ m force. Request m.0 m.1 force) (past_verb (codes "request")) w (codes "-f" ∷ decimal 0 ∷ []) (beside r 0) 0
    (ap (λ t. t || is_asking_word g w) word.0) (ap (λ x. beside x (asked_of_word w)) word.1 ∙ ap (beside r) word.2)
    (λ k. passing_read clearing_tests (codes "-f" ∷ decimal 0 ∷ []) (λ ws. 0) k (refl, (zero_word, tt))))

asking_request : (g : Layout) (r : ResourceArg) (lver force : ℕ) → IsResourceArg g r → 0 < lver → lver < 2 ^ 63 → 0 < force → force ≤ 2 → IsRead g (Request r lver force)
asking_request g r lver force is low high some most =
    let w : List ℕ = coloned (resource_parts r ++ decimal lver ∷ []) in
    let range : is_in_range 1 (2 ^ 63 - 1) lver ≡ true = and_from _ _ (le-leb 1 lver (omega arith)) (le-leb lver (2 ^ 63 - 1) (omega arith)) in
    let forces : is_in_range 1 2 force ≡ true = and_from _ _ (le-leb 1 force (omega arith)) (le-leb force 2 most) in
    let small : force < 2 ^ 64 = omega arith in
    let word = asked_written (λ n. is_in_range 1 (2 ^ 63 - 1) n) g r lver is (omega arith) range in
    let not_zero : (lver == 0) ≡ false = ne_eqb lver 0 (λ e. omega arith) in
    resource_command g (Request r lver force) (codes "request") w (codes "-f") (decimal force) [] refl refl word.3 refl (decimal_free 32 force refl small) refl
    (request_verb g (at_front (codes "request" ∷ codes "-r" ∷ w ∷ codes "-f" ∷ decimal force ∷ [])) refl
    ∙ resource_passes (is_request_word g) request_of_word (λ m. force_with (m.1 == 0)) (λ m force. Request m.0 m.1 force) (past_verb (codes "request")) w (codes "-f" ∷ decimal force ∷ []) (beside r lver) force
    (or_right (is_clearing_word g w) (is_asking_word g w) word.0) (ap (λ x. beside x (asked_of_word w)) word.1 ∙ ap (beside r) word.2)
    (λ k. ap (λ t. force_with t (record { column = k; words = codes "-f" ∷ decimal force ∷ [] })) not_zero
    ∙ passing_read asking_tests (codes "-f" ∷ decimal force ∷ []) (λ ws. number_of (word_at ws 1)) k (refl, (number_written (is_in_range 1 2) force small forces, tt))
    ∙ ap Ok (number_of-decimal force small)))

request_command : (g : Layout) (r : ResourceArg) (lver force : ℕ) → IsResourceArg g r → IsRequestArg lver force → IsRead g (Request r lver force)
request_command g r zero force is asks = subst (λ (f : ℕ). IsRead g (Request r 0 f)) (sym (asks.clears.1 refl)) (clearing_request g r is)
request_command g r (suc n) zero is asks = absurd (omega (arith, asks.clears.0 refl))
request_command g r (suc n) (suc f) is asks = asking_request g r (suc n) (suc f) is (omega arith) asks.below (omega arith) asks.forces

-- A value.
bytes_of_value : (bs : List ℕ) → list_all (λ b. ltb b 256) bs ≡ true → IsBytes bs
bytes_of_value [] h i = lit< tt
bytes_of_value (b ∷ bs) h zero = ltb-true b 256 (and_true (ltb b 256) (list_all (λ b. ltb b 256) bs) h).0
bytes_of_value (b ∷ bs) h (suc i) = bytes_of_value bs (and_true (ltb b 256) (list_all (λ b. ltb b 256) bs) h).1 i

value_written : (bytes : List ℕ) → IsValueArg bytes → (is_hex_word 2 512 (hex_text bytes) ≡ true) × (hex_bytes (hex_text bytes) ≡ bytes) × (is_free_of 32 (hex_text bytes) ≡ true)
value_written bytes value =
    let each = bytes_of_value bytes value.each in
    let low : 1 ≤ length bytes = leb-true 1 (length bytes) (and_true (leb 1 (length bytes)) (leb (length bytes) 256) value.long).0 in
    let high : length bytes ≤ 256 = leb-true (length bytes) 256 (and_true (leb 1 (length bytes)) (leb (length bytes) 256) value.long).1 in
    let word = is_hex_word-hex_text 2 512 bytes each (omega (arith, low)) (omega (arith, high)) in (word, hex_bytes-hex_text bytes each, hex_free 2 512 32 (hex_text bytes) refl word)

set_value_command : (g : Layout) (r : ResourceArg) (p : ℕ) (bytes : List ℕ) → IsResourceArg g r → IsProcess p → IsValueArg bytes → IsRead g (SetLvb r p bytes)
set_value_command g r p bytes is h value =
    let w : List ℕ = moded_word r false in
    let word = resource_written g r is in
    let hex = value_written bytes value in
    let tail : List (List ℕ) = codes "-p" ∷ decimal p ∷ codes "-d" ∷ hex_text bytes ∷ [] in
    let is_read : (k : ℕ) → value_behind (record { column = k; words = tail }) ≡ Ok (with_value p bytes) =
    (λ k. passing_read value_tests tail (λ ws. with_value (number_of (word_at ws 1)) (hex_bytes (word_at ws 3))) k (refl, (process_passes p h, (refl, (hex.0, tt))))
    ∙ ap (λ n. Ok (with_value n (hex_bytes (hex_text bytes)))) (number_of-decimal p (process_small p h)) ∙ ap (λ bs. Ok (with_value p bs)) hex.1) in
    record {
      read = set_lvb_verb g (at_front (codes "set_lvb" ∷ codes "-r" ∷ w ∷ tail)) refl
          ∙ resource_passes (is_resource_word g) resource_of_word (λ r. value_behind) (λ r v. SetLvb r v.0 v.1) (past_verb (codes "set_lvb")) w tail r (with_value p bytes) word.0 word.1 is_read;
      spaceless = and_from (is_free_of 32 w) _ word.2 (and_from (is_free_of 32 (decimal p)) _ (process_free p h) (and_from (is_free_of 32 (hex_text bytes)) true hex.2 refl));
      some = lit< tt;
    }

-- A kill program.
killpath_then : (p : ℕ) (path : List ℕ) → IsProcess p → is_path path ≡ true → (k : ℕ)
    → killpath_read (record { column = k; words = codes "-p" ∷ decimal p ∷ codes "-c" ∷ path ∷ [] }) ≡ Ok (SetKillpath p path)
killpath_then p path h is k =
    passing_read killpath_tests (codes "-p" ∷ decimal p ∷ codes "-c" ∷ path ∷ []) (λ ws. SetKillpath (number_of (word_at ws 1)) (word_at ws 3)) k
    (refl, (process_passes p h, (refl, (is, tt))))
    ∙ ap (λ n. Ok (SetKillpath n path)) (number_of-decimal p (process_small p h))

killpath_command : (g : Layout) (p : ℕ) (path : List ℕ) → IsProcess p → is_path path ≡ true → IsRead g (SetKillpath p path)
killpath_command g p path h is =
    let u : Unread = at_front (codes "set_killpath" ∷ codes "-p" ∷ decimal p ∷ codes "-c" ∷ path ∷ []) in
    record {
      read = set_killpath_verb g u refl ∙ killpath_then p path h is (past_word u).column;
      spaceless = and_from (is_free_of 32 (decimal p)) _ (process_free p h) (and_from (is_free_of 32 path) true (path_free 32 path refl is) refl);
      some = lit< tt;
    }

-- The words of a lockspace's command, and of a process's.
abbrev lockspace_words : List ℕ → LockspaceArg → List (List ℕ)
lockspace_words verb a = verb ∷ codes "-s" ∷ lockspace_word a ∷ []

abbrev process_words : List ℕ → ResourceArg → ℕ → List (List ℕ)
process_words verb r p = verb ∷ codes "-r" ∷ moded_word r false ∷ codes "-p" ∷ decimal p ∷ []

-- Each command that may be named is read of its words.
command_is_read : (g : Layout) → g.hosts < 2 ^ 64 → (c : Command) → IsCommand g c → IsRead g c
command_is_read g few (AddLockspace a) is = lockspace_command g (codes "add_lockspace") (λ a. AddLockspace a) a few is refl refl (add_lockspace_verb g (at_front (lockspace_words (codes "add_lockspace") a)) refl)
command_is_read g few (RemLockspace a) is = lockspace_command g (codes "rem_lockspace") (λ a. RemLockspace a) a few is refl refl (rem_lockspace_verb g (at_front (lockspace_words (codes "rem_lockspace") a)) refl)
command_is_read g few (InqLockspace a) is = lockspace_command g (codes "inq_lockspace") (λ a. InqLockspace a) a few is refl refl (inq_lockspace_verb g (at_front (lockspace_words (codes "inq_lockspace") a)) refl)
command_is_read g few (HostStatus a) is = lockspace_command g (codes "host_status") (λ a. HostStatus a) a few is refl refl (host_status_verb g (at_front (lockspace_words (codes "host_status") a)) refl)
command_is_read g few (Acquire r shared p persistent) is = acquire_command g r shared p persistent false is.0 is.1
command_is_read g few (TakeOver r shared p persistent) is = acquire_command g r shared p persistent true is.0 is.1
command_is_read g few (Release r p) is = release_command g r p is.0 is.1
command_is_read g few (ReleaseOrphan r) is = orphan_command g r is
command_is_read g few (Convert r shared p) is = convert_command g r shared p is.0 is.1
command_is_read g few (RunProgram r shared path) is = program_command g r shared path is.0 is.1
command_is_read g few (Request r lver force) is = request_command g r lver force is.0 is.1
command_is_read g few (GetLvb r p) is = process_command g (codes "get_lvb") (λ r p. GetLvb r p) r p is.0 is.1 refl refl (get_lvb_verb g (at_front (process_words (codes "get_lvb") r p)) refl)
command_is_read g few (SetLvb r p bytes) is = set_value_command g r p bytes is.0 is.1 is.2
command_is_read g few (SetKillpath p path) is = killpath_command g p path is.0 is.1
command_is_read g few Status is = record { read = status_verb g (at_front (codes "status" ∷ [])) refl; spaceless = refl; some = lit< tt }

-- What is read of a command's one text is the command.
pub command_of_text : (g : Layout) → g.hosts < 2 ^ 64 → (c : Command) → IsCommand g c → command_in (forms g) (spaced (command_words c)) ≡ Ok c
command_of_text g few c is =
    let written = command_is_read g few c is in
    sym (read_whole g (spaced (command_words c)))
    ∙ ap (λ ws. read_by (forms g) (at_front ws)) (pieces-join_with_byte 32 (command_words c) written.spaceless written.some) ∙ written.read
