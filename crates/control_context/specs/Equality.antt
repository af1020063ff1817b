-- When two commands are equal, and when the command changed (docs/RULES.md, 'Commands and modes').
use Rattle.std.specs.Prelude.{Bool, true, false, not, ◌&&◌, List, [], ◌∷◌, ◌==◌, Float, Option, None, Some}
use Rattle.std.specs.Float.Ieee.{eq}
use Rattle.tick.specs.declared.command.ManeuverCommand.{ManeuverCommand}
use Rattle.tick.specs.Command.{mode_of, fields_of}

-- fields equal as floats, each with the one at its place
unfoldable pub fields_equal : List Float → List Float → Bool
fields_equal [] [] = true
fields_equal [] (y ∷ ys) = false
fields_equal (x ∷ xs) [] = false
fields_equal (x ∷ xs) (y ∷ ys) = eq x y && fields_equal xs ys

-- the same kind, and fields equal as floats
abbrev pub equal : ManeuverCommand → ManeuverCommand → Bool
equal a b = mode_of a == mode_of b && fields_equal (fields_of a) (fields_of b)

-- there is no previous command, or the two are not equal
abbrev pub command_changed : Option ManeuverCommand → ManeuverCommand → Bool
command_changed None cmd = true
command_changed (Some prev) cmd = not (equal prev cmd)
