-- `of_body` goes by the body's variant.
use mathlib.Core.Path.{sym, ap, ◌∙◌}
use Rattle.c_rows.specs.Warning.{seven_of}
use Rattle.c_rows.proofs.warnings.of_body.Goals as goal

pub returns-in-Cyclone : goal.returns-in-Cyclone
returns-in-Cyclone c =
    ap seven_of (sym c.in-Cyclone.is)

pub returns-in-Gale : goal.returns-in-Gale
returns-in-Gale c =
    c.four.ensures ∙ ap seven_of (sym c.in-Gale.is)

pub returns-in-Waves : goal.returns-in-Waves
returns-in-Waves c =
    c.four-in-Waves.ensures ∙ ap seven_of (sym c.in-Waves.is)

pub returns-in-Fog : goal.returns-in-Fog
returns-in-Fog c =
    c.four-in-Fog.ensures ∙ ap seven_of (sym c.in-Fog.is)

pub returns-in-Surge : goal.returns-in-Surge
returns-in-Surge c =
    c.four-in-Surge.ensures ∙ ap seven_of (sym c.in-Surge.is)
