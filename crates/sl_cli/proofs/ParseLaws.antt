-- The command is one of those of which the parser's own words are told.
use Rattle.clap.proofs.OnLiterals.{clap_on_literals}
use Rattle.clap.specs.Faults.{is_simple_and_free}
use Rattle.clap.specs.Simple.{App, is_simple}
use Rattle.clap.specs.Kinds.{HasKind, IsAmong, Kinds}
use Rattle.clap.specs.Values.{kind_of}
use Rattle.clap.specs.declared.error.Error.{Error}
use Rattle.clap.specs.declared.error.kind.ErrorKind.TheVariants as kind
use Rattle.sl_cli.specs.ParserShape.{command_line}
use Rattle.sl_cli.specs.declared.command_words.WordsError.{WordsError}
use Rattle.std.proofs.Common.{Err, Result, [], ap, inl, inr, refl, subst, true, ◌≡◌, ◌∙◌}

line_is_simple : is_simple command_line ≡ true
unfolding clap_on_literals
line_is_simple = refl

line_is_free : is_simple_and_free command_line ≡ true
unfolding clap_on_literals
line_is_free = refl

pub simple_app : (a : App) → a ≡ command_line → is_simple a ≡ true
simple_app a is = ap is_simple is ∙ line_is_simple

pub free_app : (a : App) → a ≡ command_line → is_simple_and_free a ≡ true
free_app a is = ap is_simple_and_free is ∙ line_is_free

-- An error that is not want of memory comes only where the words are refused.
pub refuses : (kinds : Kinds) (e : Error) → HasKind kinds e → (kind_of e ≡ kind.OutOfMemory → ⊥) → kinds ≡ [] → ⊥
refuses kinds e (inl memory) other none = other memory
refuses kinds e (inr among) other none = subst (IsAmong (kind_of e)) none among

pub same_error : {A : Type 0} (x y : WordsError) (r : Result A WordsError) → r ≡ Err x → r ≡ Err y → x ≡ y
same_error x y r first second = cc
