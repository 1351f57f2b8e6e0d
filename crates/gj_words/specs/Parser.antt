-- What `clap` is told of the command line.
use Rattle.std.specs.Prelude.{codes, true}
use Rattle.clap.specs.Words.{App, Rule, new_app, new_rule, with_rule}

-- the command word
abbrev pub name_rule : Rule
name_rule = record (new_rule (codes "command")) { required = true }

-- the first word behind it, and the second
abbrev pub first_rule : Rule
first_rule = new_rule (codes "first")

abbrev pub second_rule : Rule
second_rule = new_rule (codes "second")

-- the words without a program's name, and no help and no version of `clap`'s own
abbrev pub bare_app : App
bare_app = let new = new_app (codes "gjcut") in record new {
  top = record new.top {
    no_binary_name = true;
    disable_help_flag = true;
    disable_version_flag =
        true;
  };
}

-- the command line: three positionals
abbrev pub our_app : App
our_app = with_rule (with_rule (with_rule bare_app name_rule) first_rule) second_rule
