use Rattle.cell_isolation_laws.proofs.Isolates.{change_isolated, clone_isolated, load_isolated, swap_isolated}
use Rattle.cell_isolation_laws.proofs.isolation.footprints_stay.Goals as goal

pub returns-clause-change : goal.returns-clause-change
returns-clause-change k sources w c made ns sound h good there none calm e olds news = change_isolated sources sound w h c good ns there none calm olds made e news

pub returns-clause-load : goal.returns-clause-load
returns-clause-load c sources w name stem d ns sound h there e hidden = load_isolated sources sound w h ns there name stem d e hidden

pub returns-clause-clone : goal.returns-clause-clone
returns-clause-clone c sources w name sibling d ns sound h there e = clone_isolated sources sound w h ns there name sibling d e

pub returns-clause-swap : goal.returns-clause-swap
returns-clause-swap c sources w items reexport strict budget wants made d ns sound h there want making e olds news = swap_isolated sources sound w h ns there items reexport strict budget wants want made d making e olds news
