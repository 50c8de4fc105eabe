-- `seasonal_choice::ask` meets its contract, by recursion: the number of tries falls.
use Rattle.seasonal_choice.proofs.+ask.Given as goal

abbrev pub decreases-ask : goal.decreases-ask
decreases-ask l = l.tries
