use Rattle.cell_change_law.proofs.Ending.{stack_lowest, second_turns, no_routines, second_shapes, second_read_only, second_fields, second_parts, second_sealed}
use Rattle.cell_change_law.proofs.changes.routines_of_change_change_no_cell.Goals as goal

pub returns-clause-stack : goal.returns-clause-stack
returns-clause-stack k = λ sources v c plan sound h good e. stack_lowest sources sound v h c good plan e

pub returns-clause-turns : goal.returns-clause-turns
returns-clause-turns k = λ sources v c plan sound h good e. second_turns sources sound v h c good plan e

pub returns-clause-none : goal.returns-clause-none
returns-clause-none k = λ sources v c plan none e. no_routines sources v c plan none e

pub returns-clause-parts : goal.returns-clause-parts
returns-clause-parts k = second_parts

pub returns-clause-shapes : goal.returns-clause-shapes
returns-clause-shapes k = λ sources v c plan second sound h good e t. second_shapes sources sound v h c good plan e second t

pub returns-clause-read_only : goal.returns-clause-read_only
returns-clause-read_only k = λ sources v c plan second sound h good e t. second_read_only sources sound v h c good plan e second t

pub returns-clause-fields : goal.returns-clause-fields
returns-clause-fields k = λ sources v c plan second sound h good e t. second_fields sources sound v h c good plan e second t

pub returns-clause-sealed : goal.returns-clause-sealed
returns-clause-sealed k = λ sources v c plan second sound h good e t. second_sealed sources sound v h c good plan e second t
