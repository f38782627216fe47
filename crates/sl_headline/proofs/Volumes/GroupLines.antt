-- Only the lock of a group has its value read or written by a line.
use Rattle.sl_run.specs.LockNames.{Lock, group_lock}
use Rattle.sl_run.specs.LvmLines.{Gives_writing, LvmLine, Takes_comparing, line_or, lvm_forms, lvm_line_in}
use Rattle.sl_text.specs.Forms.{Form, bad_column, fits_whole, made_by, words_of}
use Rattle.sl_trace.specs.declared.effects.Mode.{Mode}
use Rattle.sl_words.proofs.CaseLaws.{none_some, some_value}
use Rattle.std.proofs.Common.{ap, refl, subst}
use Rattle.std.specs.Prelude.{Bool, List, None, Ok, Option, Result, Some, false, find, if◌then◌else◌, option_map, true, [], ℕ, ◌∷◌, ◌≡◌}

-- Each line that compares or writes names the lock of a group.
abbrev IsOfGroup : LvmLine → Type 0
IsOfGroup (Takes_comparing l mode) = l ≡ group_lock l.group
IsOfGroup (Gives_writing l) = l ≡ group_lock l.group
IsOfGroup x = Unit {0}

-- What holds of whatever each form makes.
abbrev AllMake : (LvmLine → Type 0) → List (Form LvmLine) → Type 0
AllMake P [] = Unit {0}
AllMake P (f ∷ fs) = ((ws : List (List ℕ)) → P (f.make ws)) × AllMake P fs

made_so : (P : LvmLine → Type 0) (fs : List (Form LvmLine)) → AllMake P fs → (ws : List (List ℕ)) (x : LvmLine) → made_by fs ws ≡ Some x → P x
made_so P [] all ws x h = absurd (none_some x h)
made_so P (f ∷ fs) all ws x h = by (fits_whole f.words ws) (λ made. made_so P fs all.1 ws x made) h where
  by : (t : Bool) → (made_by fs ws ≡ Some x → P x)
      → option_map (λ (g : Form LvmLine). g.make ws) (if t then Some f else find (λ (g : Form LvmLine). fits_whole g.words ws) fs) ≡ Some x → P x
  by true later made = subst P (some_value (f.make ws) x made) (all.0 ws)
  by false later made = later made

forms_are : (area : ℕ) → AllMake IsOfGroup (lvm_forms area)
unfolding lvm_forms
forms_are area =
    (λ ws. tt, (λ ws. tt, (λ ws. tt, (λ ws. tt, (λ ws. tt, (λ ws. refl, (λ ws. refl, (λ ws. tt, (λ ws. refl, (λ ws. tt, (λ ws. tt, (λ ws. tt, (λ ws. tt, tt)))))))))))))

abbrev read_as : LvmLine → Result LvmLine ℕ
read_as x = Ok x

ok_value : (x y : LvmLine) → read_as x ≡ read_as y → x ≡ y
ok_value x y h = cc

pub line_is : (o : Option LvmLine) (column : ℕ) (x : LvmLine) → line_or o column ≡ Ok x → o ≡ Some x
line_is None column x h = absurd cc
line_is (Some y) column x h = ap (λ z. Some z) (ok_value y x h)

pub of_group : (area : ℕ) (text : List ℕ) (x : LvmLine) → lvm_line_in area text ≡ Ok x → IsOfGroup x
of_group area text x h =
    made_so IsOfGroup (lvm_forms area) (forms_are area) (words_of text) x
    (line_is (made_by (lvm_forms area) (words_of text)) (bad_column (lvm_forms area) (words_of text)) x h)

pub compares_group : (area : ℕ) (text : List ℕ) (l : Lock) (mode : Mode) → lvm_line_in area text ≡ Ok (Takes_comparing l mode) → l ≡ group_lock l.group
compares_group area text l mode h = of_group area text (Takes_comparing l mode) h

pub writes_group : (area : ℕ) (text : List ℕ) (l : Lock) → lvm_line_in area text ≡ Ok (Gives_writing l) → l ≡ group_lock l.group
writes_group area text l h = of_group area text (Gives_writing l) h
