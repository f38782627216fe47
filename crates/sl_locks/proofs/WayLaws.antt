-- The ways that go on behind `-m`: which of them the next word takes.
use Rattle.sl_locks.specs.Lines.{VolumeName, area_read, giving_ways, global_ways, group_ways, volume_ways}
use Rattle.sl_run.specs.LockNames.{global_lock, group_lock, volume_lock}
use Rattle.sl_run.specs.LvmLines.{Gives, Gives_writing, Takes, Takes_comparing, is_area_word}
use Rattle.sl_text.proofs.FormLaws.{read_by-other, read_by-verb, read_by-verbs, read_each-map}
use Rattle.sl_text.specs.Forms.{exactly, word_at}
use Rattle.sl_text.specs.Numbers.{number_of}
use Rattle.sl_text.specs.Walks.{Unread, at_end, going_on, next_passes, past_word, read_by, read_each, read_from}
use Rattle.sl_trace.specs.declared.effects.Mode.TheVariants.{Exclusive, Shared}
use Rattle.sl_trace.specs.declared.effects.Mode.{Mode}
use Rattle.sl_words.specs.Results.{ensure, ◌>>=◌}
use Rattle.std.proofs.Common.{Bool, List, [], ap, arith, eqb, false, length, refl, suc, sym, true, ℕ, ◌++◌, ◌≡◌, ◌∙◌, ◌∷◌}
use Rattle.std.proofs.lemmas.Bool.{ne_eqb}
use Rattle.std.specs.Prelude.{Err, Ok, Result, codes, if◌then◌else◌}

-- ---- the global lock

pub global_shared : (g : List ℕ) (u : Unread) → next_passes (exactly (codes "sh")) u ≡ true
    → read_by (global_ways g) u ≡ (at_end (past_word u) >>= λ _. Ok (Takes (global_lock g) Shared))
global_shared g u next = read_by-verb (global_ways g) [] (λ ws. Takes (global_lock g) Shared) u (codes "sh") next refl

pub global_exclusive : (g : List ℕ) (u : Unread) → next_passes (exactly (codes "ex")) u ≡ true
    → read_by (global_ways g) u ≡ (at_end (past_word u) >>= λ _. Ok (Takes (global_lock g) Exclusive))
global_exclusive g u next = read_by-verb (global_ways g) [] (λ ws. Takes (global_lock g) Exclusive) u (codes "ex") next refl

pub global_given : (g : List ℕ) (u : Unread) → next_passes (exactly (codes "un")) u ≡ true
    → read_by (global_ways g) u ≡ (at_end (past_word u) >>= λ _. Ok (Gives (global_lock g)))
global_given g u next = read_by-verb (global_ways g) [] (λ ws. Gives (global_lock g)) u (codes "un") next refl

pub no_global : (g : List ℕ) (u : Unread) → next_passes (exactly (codes "sh")) u ≡ false → next_passes (exactly (codes "ex")) u ≡ false
    → next_passes (exactly (codes "un")) u ≡ false → read_by (global_ways g) u ≡ Err u.column
no_global g u sh ex un = read_by-other (global_ways g) u (sh, (ex, (un, tt)))

-- ---- a group's lock, given up

nonempty : (n : ℕ) → eqb (suc n) 0 ≡ false
nonempty n = ne_eqb (suc n) 0 (λ h. omega arith)

giving_from : (g : List ℕ) (column : ℕ) (ws : List (List ℕ)) → next_passes (exactly (codes "-w")) (record { column = column; words = ws }) ≡ false
    → read_from (giving_ways g) column ws ≡ (at_end (record { column = column; words = ws }) >>= λ _. Ok (Gives (group_lock g)))
giving_from g column [] none = refl
giving_from g column (w ∷ ws) none =
    let u : Unread = record { column = column; words = w ∷ ws } in
    ap (λ (t : Bool). going_on ((if t then record { words = []; make = λ vs. Gives_writing (group_lock g) } ∷ [] else []) ++ []) column (λ gs. read_from gs (past_word u).column ws)) none
    ∙ ap (λ t. ensure t column >>= λ _. Ok (Gives (group_lock g))) (sym (nonempty (length ws)))

pub given_alone : (g : List ℕ) (u : Unread) → next_passes (exactly (codes "-w")) u ≡ false
    → read_by (giving_ways g) u ≡ (at_end u >>= λ _. Ok (Gives (group_lock g)))
given_alone g u none = giving_from g u.column u.words none

pub given_writing : (g : List ℕ) (u : Unread) → next_passes (exactly (codes "-w")) u ≡ true
    → read_by (giving_ways g) u ≡ (at_end (past_word u) >>= λ _. Ok (Gives_writing (group_lock g)))
given_writing g u next = read_by-verb (giving_ways g) [] (λ ws. Gives_writing (group_lock g)) u (codes "-w") next refl

pub ruleset giving = (given_alone, given_writing)

-- ---- a group's lock

pub group_shared : (g : List ℕ) (u : Unread) → next_passes (exactly (codes "sh")) u ≡ true
    → read_by (group_ways g) u ≡ (at_end (past_word u) >>= λ _. Ok (Takes_comparing (group_lock g) Shared))
group_shared g u next = read_by-verb (group_ways g) [] (λ ws. Takes_comparing (group_lock g) Shared) u (codes "sh") next refl

pub group_exclusive : (g : List ℕ) (u : Unread) → next_passes (exactly (codes "ex")) u ≡ true
    → read_by (group_ways g) u ≡ (at_end (past_word u) >>= λ _. Ok (Takes_comparing (group_lock g) Exclusive))
group_exclusive g u next = read_by-verb (group_ways g) [] (λ ws. Takes_comparing (group_lock g) Exclusive) u (codes "ex") next refl

pub group_given : (g : List ℕ) (u : Unread) → next_passes (exactly (codes "un")) u ≡ true → read_by (group_ways g) u ≡ read_by (giving_ways g) (past_word u)
group_given g u next = read_by-verbs (group_ways g) (giving_ways g) u (codes "un") next refl

pub no_group : (g : List ℕ) (u : Unread) → next_passes (exactly (codes "sh")) u ≡ false → next_passes (exactly (codes "ex")) u ≡ false
    → next_passes (exactly (codes "un")) u ≡ false → read_by (group_ways g) u ≡ Err u.column
no_group g u sh ex un = read_by-other (group_ways g) u (sh, (ex, (un, (un, tt))))

-- ---- a logical volume's lock

volume_moded : (area : ℕ) (v : VolumeName) (mode : Mode) (u : Unread)
    → read_each (exactly (codes "-a") ∷ is_area_word area ∷ []) (λ ws. Takes (volume_lock v.0 v.1 (number_of (word_at ws 1))) mode) u
    ≡ (area_read area u >>= λ n. Ok (Takes (volume_lock v.0 v.1 n) mode))
volume_moded area v mode u =
    read_each-map (λ n. Takes (volume_lock v.0 v.1 n) mode) (exactly (codes "-a") ∷ is_area_word area ∷ []) (λ ws. number_of (word_at ws 1)) u

pub volume_shared : (area : ℕ) (v : VolumeName) (u : Unread) → next_passes (exactly (codes "sh")) u ≡ true
    → read_by (volume_ways area v) u ≡ (area_read area (past_word u) >>= λ n. Ok (Takes (volume_lock v.0 v.1 n) Shared))
volume_shared area v u next =
    read_by-verb (volume_ways area v) (exactly (codes "-a") ∷ is_area_word area ∷ []) (λ ws. Takes (volume_lock v.0 v.1 (number_of (word_at ws 1))) Shared) u (codes "sh") next refl
    ∙ volume_moded area v Shared (past_word u)

pub volume_exclusive : (area : ℕ) (v : VolumeName) (u : Unread) → next_passes (exactly (codes "ex")) u ≡ true
    → read_by (volume_ways area v) u ≡ (area_read area (past_word u) >>= λ n. Ok (Takes (volume_lock v.0 v.1 n) Exclusive))
volume_exclusive area v u next =
    read_by-verb (volume_ways area v) (exactly (codes "-a") ∷ is_area_word area ∷ []) (λ ws. Takes (volume_lock v.0 v.1 (number_of (word_at ws 1))) Exclusive) u (codes "ex") next refl
    ∙ volume_moded area v Exclusive (past_word u)

pub no_volume : (area : ℕ) (v : VolumeName) (u : Unread) → next_passes (exactly (codes "sh")) u ≡ false → next_passes (exactly (codes "ex")) u ≡ false
    → read_by (volume_ways area v) u ≡ Err u.column
no_volume area v u sh ex = read_by-other (volume_ways area v) u (sh, (ex, tt))

-- ---- what is read behind a word that is next

goes : (t : Bool) (u v : Unread) → v ≡ (if t then past_word u else u) → t ≡ true → v ≡ past_word u
goes true u v left taken = left
goes false u v left taken = absurd cc

-- It is what the word's forms make of all words.
pub read_behind : {A : Type 0} (p : List ℕ → Bool) (whole read : Unread → Result A ℕ) → ((u : Unread) → next_passes p u ≡ true → whole u ≡ read (past_word u))
    → (t : Bool) (u v w : Unread) (r : Result A ℕ) → v ≡ u → t ≡ next_passes p v → w ≡ (if t then past_word v else v) → t ≡ true → r ≡ read w → r ≡ whole u
read_behind p whole read law t u v w r at passes left taken reads =
    reads ∙ ap read (goes t v w left taken) ∙ sym (law v (sym passes ∙ taken)) ∙ ap whole at
