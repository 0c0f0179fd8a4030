mod AsPrinted
